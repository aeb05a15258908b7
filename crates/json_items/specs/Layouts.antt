-- Readers of layouts.
use Rattle.std.specs.Prelude.{[], ◌∷◌, codes, false}
use Rattle.serde_json.specs.Data.{Data}
use Rattle.world.specs.declared.layout.Layout.{Layout}
use Rattle.world.specs.declared.layout.MultiLayout.{MultiLayout}
use Rattle.world.specs.declared.layout.TagEncoding.TheVariants as the_tag_encoding
use Rattle.world.specs.declared.layout.TagEncoding.{TagEncoding}
use Rattle.world.specs.declared.layout.Variants.TheVariants as the_variants
use Rattle.world.specs.declared.layout.Variants.{Variants}
use Rattle.json_kit.specs.Fit.{Fit, ◌>>=◌}
use Rattle.json_kit.specs.Keys.{members_of, optional, required, with_no_other}
use Rattle.json_kit.specs.Numerals.{u128_of}
use Rattle.json_kit.specs.Parts.{list_of}
use Rattle.json_kit.specs.Scalars.{bool_of, u32_of, u64_of}
use Rattle.json_kit.specs.Variants.{enum_of, payload, unit}

unfoldable pub tag_encoding_niche_of : Data → Fit TagEncoding
tag_encoding_niche_of d = do
  ms ← members_of d
  untagged_variant ← required (codes "untagged_variant") u32_of d
  niche_first ← required (codes "niche_first") u32_of d
  niche_last ← required (codes "niche_last") u32_of d
  niche_start ← required (codes "niche_start") u128_of d
  with_no_other (codes "untagged_variant" ∷ codes "niche_first" ∷ codes "niche_last" ∷ codes "niche_start" ∷ []) ms (the_tag_encoding.Niche untagged_variant niche_first niche_last niche_start)

unfoldable pub tag_encoding_of : Data → Fit TagEncoding
tag_encoding_of = enum_of (unit (codes "Direct") the_tag_encoding.Direct ∷ payload (codes "Niche") tag_encoding_niche_of (λ whole. whole) ∷ [])

unfoldable pub multi_layout_of : Data → Fit MultiLayout
multi_layout_of d = do
  ms ← members_of d
  tag_offset ← required (codes "tag_offset") u64_of d
  tag_size ← required (codes "tag_size") u64_of d
  tag_signed ← optional false (codes "tag_signed") bool_of d
  encoding ← required (codes "encoding") tag_encoding_of d
  variants ← optional [] (codes "variants") (list_of (list_of u64_of)) d
  with_no_other (codes "tag_offset" ∷ codes "tag_size" ∷ codes "tag_signed" ∷ codes "encoding" ∷ codes "variants" ∷ []) ms (record { tag_offset = tag_offset; tag_size = tag_size; tag_signed = tag_signed; encoding = encoding; variants = variants })

unfoldable pub variants_of : Data → Fit Variants
variants_of = enum_of (unit (codes "Empty") the_variants.Empty ∷ payload (codes "Single") u32_of the_variants.Single ∷ payload (codes "Multiple") multi_layout_of the_variants.Multiple ∷ [])

unfoldable pub layout_of : Data → Fit Layout
layout_of d = do
  ms ← members_of d
  size ← required (codes "size") u64_of d
  align ← required (codes "align") u64_of d
  sized ← optional false (codes "sized") bool_of d
  offsets ← optional [] (codes "offsets") (list_of u64_of) d
  variants ← required (codes "variants") variants_of d
  with_no_other (codes "size" ∷ codes "align" ∷ codes "sized" ∷ codes "offsets" ∷ codes "variants" ∷ []) ms (record { size = size; align = align; sized = sized; offsets = offsets; variants = variants })
