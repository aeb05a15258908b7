-- Answers that decide whether a tag fits its enum.
use Rattle.std.proofs.Common.{◌≡◌, ℕ, ◌+◌, ◌-◌, ◌*◌, ◌^◌, ◌<◌, ◌≤◌, Bool, true, length, Decides, refl, sym, ◌∙◌, ap, subst}
use Rattle.std.proofs.lemmas.Bool.Decides.{Decides-like}
use Rattle.types.specs.declared.ids.AdtId.TheVariants.{EnumId}
use Rattle.types.specs.declared.ids.EnumId.{EnumId as EnumName}
use Rattle.types.specs.declared.ty.Const.TheOpen as layer
use Rattle.types.specs.declared.ty.Const.TheViews.{out-Ty}
use Rattle.types.specs.declared.ty.GenericArgs.{GenericArgs}
use Rattle.types.specs.declared.ty.Ty.{Ty}
use Rattle.types.specs.declared.ty.Ty.TheVariants as type
use Rattle.world.specs.declared.database.HirDatabase.{HirDatabase}
use Rattle.world.specs.declared.layout.Layout.{Layout}
use Rattle.world.specs.declared.layout.MultiLayout.{MultiLayout}
use Rattle.world.specs.declared.layout.TagEncoding.{TagEncoding}
use Rattle.world.specs.declared.layout.TagEncoding.TheVariants.{Direct, Niche}
use Rattle.world.specs.declared.layout.Variants.{Variants}
use Rattle.world.specs.declared.layout.Variants.TheVariants.{Empty, Single, Multiple}
use Rattle.check_layouts.specs.Laid.{HasRightTag, IsNiche, IsTag, variants_of}
use Rattle.check_layouts.specs.Sizes.{TyLayer}
use Rattle.check_layouts.proofs.Deciding.{Answer, at_most, below, both_of, no, same, yes}
use Rattle.check_layouts.proofs.Forms.{adt_is, adt_out}

niche_answer : (variants size : ℕ) (encoding : TagEncoding) → Answer (IsNiche variants size encoding)
niche_answer variants size Direct = (true, yes tt)
niche_answer variants size (Niche untagged first last start) = both_of (below untagged variants) (at_most (start + (variants - 1)) (2 ^ (8 * size)))

-- the parts of what is asked of a tag
tag_like : (variants : ℕ) (multiple : MultiLayout) (b : Bool) → Decides b ((length multiple.variants ≡ variants) × ((variants ≤ 2 ^ (8 * multiple.tag_size)) × IsNiche variants multiple.tag_size multiple.encoding)) → Decides b (IsTag variants multiple)
tag_like variants multiple b decides = Decides-like b (λ parts. record { count = parts.0; values = parts.1.0; niche = parts.1.1 }) (λ tag. (tag.count, (tag.values, tag.niche))) decides

tag_of : (variants : ℕ) (multiple : MultiLayout) → Answer (IsTag variants multiple)
tag_of variants multiple =
    let parts = both_of (same (length multiple.variants) variants) (both_of (at_most variants (2 ^ (8 * multiple.tag_size))) (niche_answer variants multiple.tag_size multiple.encoding)) in
    (parts.0, tag_like variants multiple parts.0 parts.1)

-- the variants of a layout fit an enum with so many
abbrev pub FitsEnum : ℕ → Variants → Type 0
FitsEnum count variants = ((multiple : MultiLayout) → variants ≡ Multiple multiple → IsTag count multiple) × ((i : ℕ) → variants ≡ Single i → i < count)

fits_empty : (count : ℕ) (variants : Variants) → variants ≡ Empty → FitsEnum count variants
fits_empty count variants is = ((λ multiple e. cc), (λ i e. cc))

fits_single : (count : ℕ) (variants : Variants) (i : ℕ) (b : Bool) → variants ≡ Single i → Decides b (i < count) → Decides b (FitsEnum count variants)
fits_single count variants i b is decides =
    Decides-like b
    (λ less. ((λ multiple e. cc), (λ j e. let same_index : i ≡ j = cc in subst (λ n. n < count) same_index less)))
    (λ fits. fits.1 i is)
    decides

fits_multiple : (count : ℕ) (variants : Variants) (multiple : MultiLayout) (b : Bool) → variants ≡ Multiple multiple → Decides b (IsTag count multiple) → Decides b (FitsEnum count variants)
fits_multiple count variants multiple b is decides =
    Decides-like b
    (λ tag. ((λ other e. let one : multiple ≡ other = cc in subst (IsTag count) one tag), (λ j e. cc)))
    (λ fits. fits.0 multiple is)
    decides

fits_answer : (count : ℕ) (variants : Variants) → Answer (FitsEnum count variants)
fits_answer count Empty = (true, yes (fits_empty count Empty refl))
fits_answer count (Single i) = let less = below i count in (less.0, fits_single count (Single i) i less.0 refl less.1)
fits_answer count (Multiple multiple) = let tag = tag_of count multiple in (tag.0, fits_multiple count (Multiple multiple) multiple tag.0 refl tag.1)

-- the layout has no tag
abbrev pub IsUntagged : Variants → Type 0
IsUntagged variants = (multiple : MultiLayout) → variants ≡ Multiple multiple → ⊥

untagged_answer : (variants : Variants) → Answer (IsUntagged variants)
untagged_answer Empty = (_, yes (λ multiple e. cc))
untagged_answer (Single i) = (_, yes (λ multiple e. cc))
untagged_answer (Multiple multiple) = (_, no (λ none. none multiple refl))

module _ (world : HirDatabase) (ty : Ty) (layout : Layout) where
  pub enum_decides : (id : EnumName) (args : GenericArgs) (b : Bool) → ty ≡ type.Adt (EnumId id) args → Decides b (FitsEnum (length (variants_of world id.0)) layout.variants) → Decides b (HasRightTag world ty layout)
  enum_decides id args b is decides =
      Decides-like b
      (λ fits. record {
        of_enum = λ multiple several. (id, args, is);
        tag = λ other given multiple also several. let one = same_enum other given also in subst (λ (e : EnumName). IsTag (length (variants_of world e.0)) multiple) one (fits.0 multiple several);
        only = λ other given i also single. let one = same_enum other given also in subst (λ (e : EnumName). i < length (variants_of world e.0)) one (fits.1 i single);
      })
      (λ right. ((λ multiple several. right.tag id args multiple is several), (λ i single. right.only id args i is single)))
      decides
    where
      same_enum : (other : EnumName) (given : GenericArgs) → ty ≡ type.Adt (EnumId other) given → id ≡ other
      same_enum other given also =
          let layers : layer.Adt (EnumId id) args ≡ layer.Adt (EnumId other) given = sym (adt_out (EnumId id) args) ∙ ap out-Ty (sym is ∙ also) ∙ adt_out (EnumId other) given in
          cc

  other_decides : (b : Bool) → ((id : EnumName) (args : GenericArgs) → ty ≡ type.Adt (EnumId id) args → ⊥) → Decides b (IsUntagged layout.variants) → Decides b (HasRightTag world ty layout)
  other_decides b other decides =
      Decides-like b
      (λ untagged. record {
        of_enum = λ multiple several. absurd (untagged multiple several);
        tag = λ id args multiple is several. absurd (other id args is);
        only = λ id args i is single. absurd (other id args is);
      })
      (λ right multiple several. let enum = right.of_enum multiple several in other enum.0 enum.1 enum.2)
      decides

  pub right_tag_answer : Answer (HasRightTag world ty layout)
  right_tag_answer = by (out-Ty ty) refl
    where
      by : (form : TyLayer) → out-Ty ty ≡ form → Answer (HasRightTag world ty layout)
      by (layer.Adt (EnumId id) args) e = let fits = fits_answer (length (variants_of world id.0)) layout.variants in (fits.0, enum_decides id args fits.0 (adt_is ty (EnumId id) args e) fits.1)
      by _ e =
          let untagged = untagged_answer layout.variants in
          (untagged.0, other_decides untagged.0 (λ id args is. let own = adt_out (EnumId id) args in cc) untagged.1)
