-- Whether the tag of a row of `layouts` is right is decided.
use Rattle.std.proofs.Common.{◌≡◌, Bool, true, false, Decides, refl, sym}
use Rattle.types.specs.declared.ty.Ty.{Ty}
use Rattle.world.specs.declared.database.HirDatabase.{HirDatabase}
use Rattle.world.specs.declared.layout.Layout.{Layout}
use Rattle.check_layouts.specs.Laid.{HasRightTag}
use Rattle.check_layouts.proofs.Tagged.{right_tag_answer}

-- Two tests that decide one property have one answer.
pub same_answer : {P : Type 0} (a b : Bool) → Decides a P → Decides b P → a ≡ b
same_answer true b p q = sym (q.1 (p.0 refl))
same_answer false true p q = p.1 (q.0 refl)
same_answer false false p q = refl

-- whether a row of `layouts` has a right tag
pub tag_answer : (world : HirDatabase) (row : Ty × Layout) → (b : Bool) × Decides b (HasRightTag world row.0 row.1)
tag_answer world row = right_tag_answer world row.0 row.1

abbrev pub is_tag_right : HirDatabase → Ty × Layout → Bool
is_tag_right world row = (tag_answer world row).0
