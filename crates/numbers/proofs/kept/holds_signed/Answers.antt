use Rattle.std.proofs.Common.{◌≡◌, sym, refl, rules}
use Rattle.std.specs.Int.{w128}
use Rattle.std.proofs.lemmas.Int.{to_z-of_z}
use Rattle.numbers.proofs.Keeping.{holds-between, wide_holds}
use Rattle.numbers.proofs.kept.holds_signed.Goals as goal

pub returns-in-1 : goal.returns-in-1
returns-in-1 c = rw c.in-1.is (holds-between 1 127 c.args.value _ _ _ c.is_between.result (to_z-of_z w128 c.args.value c.ranges.value) refl refl refl c.is_between.ensures)

pub returns-in-2 : goal.returns-in-2
returns-in-2 c = rw c.in-2.is (holds-between 2 32767 c.args.value _ _ _ c.is_between-in-2.result (to_z-of_z w128 c.args.value c.ranges.value) refl refl refl c.is_between-in-2.ensures)

pub returns-in-4 : goal.returns-in-4
returns-in-4 c = rw c.in-4.is (holds-between 4 2147483647 c.args.value _ _ _ c.is_between-in-4.result (to_z-of_z w128 c.args.value c.ranges.value) refl refl refl c.is_between-in-4.ensures)

pub returns-in-8 : goal.returns-in-8
returns-in-8 c = rw c.in-8.is (holds-between 8 9223372036854775807 c.args.value _ _ _ c.is_between-in-8.result (to_z-of_z w128 c.args.value c.ranges.value) refl refl refl c.is_between-in-8.ensures)

pub returns-in_default : goal.returns-in_default
returns-in_default c =
    let size : c.args.size ≡ 16 = search rules in
    rw size (sym (wide_holds c.args.value c.ranges.value))
