use Rattle.std.proofs.Common.{◌≡◌, ◌∙◌, ◌<◌, ◌+◌, ◌-◌, ℕ, zero, suc, IfOk, Some, None, List, Option, get_or, map, slice_get, sym, ap, subst, arith}
use Rattle.std.proofs.lemmas.Bool.Decides.{nat_tests}
use Rattle.std.proofs.lemmas.Option.{slice_get-get_or, slice_get_within}
use Rattle.std.specs.Ordering.{nat_cmp, ord_max}
use Rattle.source_meaning.specs.Heights.{first_heights, greatest, height_among, heights}
use Rattle.heights.specs.Known.{AreHeights, at_most}
use Rattle.heights.proofs.Known.{found-known, put-known}
use Rattle.heights.proofs.Rows.{above, elsewhere, most, one-too-much, outside, over-parts, positive, too-much, was-most, was-too-much, with-part}
use Rattle.heights.proofs.heights.+heights.Goals as goal

some-levels : (n : ℕ) → (n ≡ 0 → ⊥) → 0 < n
some-levels zero none = absurd (none cc)
some-levels (suc n) none = omega arith

greater-of : (a b : ℕ) → ord_max nat_cmp a b ≡ a + (b - a)
greater-of a b = grind (arith, nat_tests)

pub height_at-returns-then-levels-eq0-clause-height :
    goal.height_at-returns-then-levels-eq0-clause-height
height_at-returns-then-levels-eq0-clause-height t c =
    let more = positive c.args.db.now c.args.place in
    sym (too-much (height_among (heights c.args.db.now) (Some c.args.place)) c.args.levels (omega (arith, more, c.if-levels-eq0.true)))

pub height_at-returns-in-Some-clause-height : goal.height_at-returns-in-Some-clause-height
height_at-returns-in-Some-clause-height t c =
    c.at_most.ensures ∙ ap (λ (n : ℕ). at_most n c.args.levels) (sym (found-known c.args.db.now c.args.place c.args.known.now c.in-Some.height.now c.requires (sym c.in-Some.ensures)))

pub height_at-returns-in_default-at-clause-height :
    goal.height_at-returns-in_default-at-clause-height
height_at-returns-in_default-at-clause-height t c =
    let some = some-levels c.args.levels c.if-levels-eq0.false in
    sym (ap (λ (n : ℕ). at_most n c.args.levels) (outside c.args.db.now c.args.place (sym c.in_default-at.ensures)) ∙ most 1 c.args.levels (omega (arith, some)))

pub height_at-highest-requires : goal.height_at-highest-requires
height_at-highest-requires t c =
    let some = some-levels c.args.levels c.if-levels-eq0.false in
    (omega (arith, some), (slice_get_within c.args.db.now.layouts c.args.place c.in-Some-at.row.now (sym c.in-Some-at.ensures), c.requires))

pub height_at-returns-in_default-2-clause-height :
    goal.height_at-returns-in_default-2-clause-height
height_at-returns-in_default-2-clause-height t c =
    let some = some-levels c.args.levels c.if-levels-eq0.false in
    let over = over-parts c.args.db.now c.args.place c.in-Some-at.row.now c.as_slice.result.now (sym c.in-Some-at.ensures) (c.as_slice.ensures ∙ c.in_ok-parts.ensures) in
    let more = was-too-much (greatest (map (height_among (first_heights c.args.db.now c.args.place)) c.as_slice.result.now)) (c.args.levels - 1) (sym c.in_default-2.is ∙ c.in_ok-highest.ensures.highest) in
    sym (too-much (height_among (heights c.args.db.now) (Some c.args.place)) c.args.levels (omega (arith, some, over, more)))

pub height_at-returns-clause-height : goal.height_at-returns-clause-height
height_at-returns-clause-height t c =
    let some = some-levels c.args.levels c.if-levels-eq0.false in
    let over = over-parts c.args.db.now c.args.place c.in-Some-at.row.now c.as_slice.result.now (sym c.in-Some-at.ensures) (c.as_slice.ensures ∙ c.in_ok-parts.ensures) in
    let found = was-most (greatest (map (height_among (first_heights c.args.db.now c.args.place)) c.as_slice.result.now)) (c.args.levels - 1) c.in-Some-2.highest (sym c.in-Some-2.is ∙ c.in_ok-highest.ensures.highest) in
    sym (ap (λ (n : ℕ). at_most n c.args.levels) (omega (arith, over, found.0)) ∙ most (c.in-Some-2.highest + 1) c.args.levels (omega (arith, some, found.0, found.1)))

pub height_at-returns-clause-known : goal.height_at-returns-clause-known
height_at-returns-clause-known t c =
    let some = some-levels c.args.levels c.if-levels-eq0.false in
    let over = over-parts c.args.db.now c.args.place c.in-Some-at.row.now c.as_slice.result.now (sym c.in-Some-at.ensures) (c.as_slice.ensures ∙ c.in_ok-parts.ensures) in
    let found = was-most (greatest (map (height_among (first_heights c.args.db.now c.args.place)) c.as_slice.result.now)) (c.args.levels - 1) c.in-Some-2.highest (sym c.in-Some-2.is ∙ c.in_ok-highest.ensures.highest) in
    subst (λ (known : List (ℕ × ℕ)). AreHeights c.args.db.now known) (sym c.in_ok-insert.ensures.ok)
    (put-known c.args.db.now c.args.place (c.in-Some-2.highest + 1) _ (omega (arith, over, found.0)) c.in_ok-highest.ensures.known)

pub part_height-returns-then-place-row-clause-height :
    goal.part_height-returns-then-place-row-clause-height
part_height-returns-then-place-row-clause-height t c =
    let same : height_among (heights c.args.db.now) (Some c.in-Some.place) ≡ height_among (first_heights c.args.db.now c.args.row) c.args.part =
    above c.args.db.now c.args.row c.in-Some.place c.requires.row c.if-place-row.true ∙ ap (height_among (first_heights c.args.db.now c.args.row)) (sym c.in-Some.is) in
    subst (λ (n : ℕ). IfOk c.height_at.result (λ (height : Option ℕ). height ≡ at_most n c.args.levels)) same c.height_at.ensures.height

pub part_height-returns-else-place-row-clause-height :
    goal.part_height-returns-else-place-row-clause-height
part_height-returns-else-place-row-clause-height t c =
    c.at_most.ensures
    ∙ ap (λ (n : ℕ). at_most n c.args.levels)
    (sym (ap (height_among (first_heights c.args.db.now c.args.row)) c.in-Some.is ∙ elsewhere c.args.db.now c.args.row c.in-Some.place c.if-place-row.false))

pub highest-returns-in_default-clause-highest : goal.highest-returns-in_default-clause-highest
highest-returns-in_default-clause-highest t c =
    let i = c.loop-part.part-index in
    let part = get_or c.args.parts.now i None in
    let there : slice_get c.args.parts.now i ≡ Some part = slice_get-get_or c.args.parts.now i None c.loop-part-test.true in
    let more = was-too-much (height_among (first_heights c.args.db.now c.args.row) part) c.args.levels (sym c.in_default.is ∙ c.in_ok-height.ensures.height) in
    sym (one-too-much (first_heights c.args.db.now c.args.row) c.args.parts.now i part there c.args.levels more)

pub highest-loop-part-preserved : goal.highest-loop-part-preserved
highest-loop-part-preserved t c =
    let i = c.loop-part.part-index in
    let part = get_or c.args.parts.now i None in
    let there : slice_get c.args.parts.now i ≡ Some part = slice_get-get_or c.args.parts.now i None c.loop-part-test.true in
    let found = was-most (height_among (first_heights c.args.db.now c.args.row) part) c.args.levels c.in-Some.height (sym c.in-Some.is ∙ c.in_ok-height.ensures.height) in
    let raised : c.max-highest.result ≡ c.loop-part.highest + (c.in-Some.height - c.loop-part.highest) = c.max-highest.ensures ∙ greater-of c.loop-part.highest c.in-Some.height in (
      with-part (first_heights c.args.db.now c.args.row) c.args.parts.now i part there c.in-Some.height c.loop-part.highest c.max-highest.result c.loop-part-test.true c.loop-part.invariant.0 found.0 raised,
      omega (arith, raised, found.1, found.0, c.loop-part.invariant.1),
      c.in_ok-height.ensures.known,
    )
