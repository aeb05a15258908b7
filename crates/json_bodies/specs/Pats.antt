-- Readers of patterns.
use Rattle.std.specs.Prelude.{[], ◌∷◌, Option, None, codes}
use Rattle.serde_json.specs.Data.{Data}
use Rattle.world.specs.declared.pat.Pat.TheVariants as the_pat
use Rattle.world.specs.declared.pat.Pat.{Pat}
use Rattle.world.specs.declared.pat.RangeOp.TheVariants as the_range_op
use Rattle.world.specs.declared.pat.RangeOp.{RangeOp}
use Rattle.world.specs.declared.pat.RecordFieldPat.{RecordFieldPat}
use Rattle.json_kit.specs.Fit.{Fit, ◌>>=◌}
use Rattle.json_types.specs.Ids.{binding_id_of, expr_id_of, pat_id_of}
use Rattle.json_kit.specs.Keys.{members_of, optional, required, with_no_other}
use Rattle.json_kit.specs.Parts.{list_of, option_of}
use Rattle.json_kit.specs.Scalars.{text_of, u32_of}
use Rattle.json_kit.specs.Variants.{Named, enum_of, first_of, payload, unit}

unfoldable pub record_field_pat_of : Data → Fit RecordFieldPat
record_field_pat_of d = do
  ms ← members_of d
  name ← required (codes "name") text_of d
  pat ← required (codes "pat") pat_id_of d
  with_no_other (codes "name" ∷ codes "pat" ∷ []) ms (record { name = name; pat = pat })

unfoldable pub range_op_of : Data → Fit RangeOp
range_op_of = enum_of (unit (codes "Exclusive") the_range_op.Exclusive ∷ unit (codes "Inclusive") the_range_op.Inclusive ∷ [])

unfoldable pub pat_tuple_of : Data → Fit Pat
pat_tuple_of d = do
  ms ← members_of d
  args ← optional [] (codes "args") (list_of pat_id_of) d
  ellipsis ← optional None (codes "ellipsis") (option_of u32_of) d
  with_no_other (codes "args" ∷ codes "ellipsis" ∷ []) ms (the_pat.Tuple args ellipsis)

unfoldable pub pat_record_of : Data → Fit Pat
pat_record_of d = do
  ms ← members_of d
  args ← optional [] (codes "args") (list_of record_field_pat_of) d
  with_no_other (codes "args" ∷ []) ms (the_pat.Record args)

unfoldable pub pat_range_of : Data → Fit Pat
pat_range_of d = do
  ms ← members_of d
  start ← optional None (codes "start") (option_of expr_id_of) d
  end ← optional None (codes "end") (option_of expr_id_of) d
  range_type ← required (codes "range_type") range_op_of d
  with_no_other (codes "start" ∷ codes "end" ∷ codes "range_type" ∷ []) ms (the_pat.Range start end range_type)

unfoldable pub pat_slice_of : Data → Fit Pat
pat_slice_of d = do
  ms ← members_of d
  prefix ← optional [] (codes "prefix") (list_of pat_id_of) d
  slice ← optional None (codes "slice") (option_of pat_id_of) d
  suffix ← optional [] (codes "suffix") (list_of pat_id_of) d
  with_no_other (codes "prefix" ∷ codes "slice" ∷ codes "suffix" ∷ []) ms (the_pat.Slice prefix slice suffix)

unfoldable pub pat_bind_of : Data → Fit Pat
pat_bind_of d = do
  ms ← members_of d
  id ← required (codes "id") binding_id_of d
  subpat ← optional None (codes "subpat") (option_of pat_id_of) d
  with_no_other (codes "id" ∷ codes "subpat" ∷ []) ms (the_pat.Bind id subpat)

unfoldable pub pat_tuple_struct_of : Data → Fit Pat
pat_tuple_struct_of d = do
  ms ← members_of d
  args ← optional [] (codes "args") (list_of pat_id_of) d
  ellipsis ← optional None (codes "ellipsis") (option_of u32_of) d
  with_no_other (codes "args" ∷ codes "ellipsis" ∷ []) ms (the_pat.TupleStruct args ellipsis)

unfoldable pub pat_ref_of : Data → Fit Pat
pat_ref_of d = do
  ms ← members_of d
  pat ← required (codes "pat") pat_id_of d
  with_no_other (codes "pat" ∷ []) ms (the_pat.Ref pat)

unfoldable pub bare_pat_of : Named → Fit (Option Pat)
bare_pat_of = first_of (unit (codes "Missing") the_pat.Missing ∷ unit (codes "Wild") the_pat.Wild ∷ [])

unfoldable pub simple_pat_of : Named → Fit (Option Pat)
simple_pat_of = first_of (payload (codes "Or") (list_of pat_id_of) the_pat.Or ∷ payload (codes "Path") text_of the_pat.Path ∷ payload (codes "Lit") expr_id_of the_pat.Lit ∷ payload (codes "Expr") expr_id_of the_pat.Expr ∷ [])

unfoldable pub part_pat_of : Named → Fit (Option Pat)
part_pat_of = first_of (payload (codes "Box") pat_id_of the_pat.Box ∷ payload (codes "ConstBlock") expr_id_of the_pat.ConstBlock ∷ payload (codes "Tuple") pat_tuple_of (λ whole. whole) ∷ payload (codes "Record") pat_record_of (λ whole. whole) ∷ [])

unfoldable pub bound_pat_of : Named → Fit (Option Pat)
bound_pat_of = first_of (payload (codes "Range") pat_range_of (λ whole. whole) ∷ payload (codes "Slice") pat_slice_of (λ whole. whole) ∷ payload (codes "Bind") pat_bind_of (λ whole. whole) ∷ [])

unfoldable pub field_pat_of : Named → Fit (Option Pat)
field_pat_of = first_of (payload (codes "TupleStruct") pat_tuple_struct_of (λ whole. whole) ∷ payload (codes "Ref") pat_ref_of (λ whole. whole) ∷ [])

unfoldable pub pat_of : Data → Fit Pat
pat_of = enum_of (bare_pat_of ∷ simple_pat_of ∷ part_pat_of ∷ bound_pat_of ∷ field_pat_of ∷ [])
