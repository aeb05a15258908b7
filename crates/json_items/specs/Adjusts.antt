-- Readers of adjustments.
use Rattle.std.specs.Prelude.{[], ◌∷◌, None, codes}
use Rattle.serde_json.specs.Data.{Data}
use Rattle.world.specs.declared.adjust.Adjust.TheVariants as the_adjust
use Rattle.world.specs.declared.adjust.Adjust.{Adjust}
use Rattle.world.specs.declared.adjust.Adjustment.{Adjustment}
use Rattle.world.specs.declared.adjust.AutoBorrow.TheVariants as the_auto_borrow
use Rattle.world.specs.declared.adjust.AutoBorrow.{AutoBorrow}
use Rattle.world.specs.declared.adjust.OverloadedDeref.{OverloadedDeref}
use Rattle.world.specs.declared.adjust.PointerCast.TheVariants as the_pointer_cast
use Rattle.world.specs.declared.adjust.PointerCast.{PointerCast}
use Rattle.json_kit.specs.Fit.{Fit, ◌>>=◌}
use Rattle.json_kit.specs.Keys.{members_of, optional, required, with_no_other}
use Rattle.json_types.specs.Kinds.{mutability_of}
use Rattle.json_kit.specs.Parts.{option_of}
use Rattle.json_types.specs.Types.{ty_of}
use Rattle.json_kit.specs.Variants.{enum_of, payload, unit}

unfoldable pub pointer_cast_of : Data → Fit PointerCast
pointer_cast_of = enum_of (unit (codes "ReifyFnPointer") the_pointer_cast.ReifyFnPointer ∷ unit (codes "UnsafeFnPointer") the_pointer_cast.UnsafeFnPointer ∷ unit (codes "ClosureFnPointer") the_pointer_cast.ClosureFnPointer ∷ unit (codes "MutToConstPointer") the_pointer_cast.MutToConstPointer ∷ unit (codes "ArrayToPointer") the_pointer_cast.ArrayToPointer ∷ unit (codes "Unsize") the_pointer_cast.Unsize ∷ [])

unfoldable pub auto_borrow_of : Data → Fit AutoBorrow
auto_borrow_of = enum_of (payload (codes "Ref") mutability_of the_auto_borrow.Ref ∷ payload (codes "RawPtr") mutability_of the_auto_borrow.RawPtr ∷ [])

unfoldable pub overloaded_deref_of : Data → Fit OverloadedDeref
overloaded_deref_of d = do
  ms ← members_of d
  mutability ← optional None (codes "mutability") (option_of mutability_of) d
  with_no_other (codes "mutability" ∷ []) ms (record { mutability = mutability })

unfoldable pub adjust_of : Data → Fit Adjust
adjust_of = enum_of (unit (codes "NeverToAny") the_adjust.NeverToAny ∷ payload (codes "Deref") (option_of overloaded_deref_of) the_adjust.Deref ∷ payload (codes "Borrow") auto_borrow_of the_adjust.Borrow ∷ payload (codes "Pointer") pointer_cast_of the_adjust.Pointer ∷ [])

unfoldable pub adjustment_of : Data → Fit Adjustment
adjustment_of d = do
  ms ← members_of d
  kind ← required (codes "kind") adjust_of d
  target ← required (codes "target") ty_of d
  with_no_other (codes "kind" ∷ codes "target" ∷ []) ms (record { kind = kind; target = target })
