-- The locals of a graph take no more bytes than the source counts for its cells: each local is that of a cell that is
-- counted, and no two are of one.
use Rattle.std.proofs.Common.{◌≡◌, ◌≢◌, ℕ, zero, suc, ◌+◌, ◌<◌, ◌≤◌, ◌⊎◌, ⊎_elim, inl, inr, Bool, true, false, cond, List, [], ◌∷◌, length, Some, refl, sym, ap, ◌∙◌, subst, arith, eq-or-lt_of_le}
use Rattle.std.specs.Prelude.{not, ◌||◌, ◌==◌, filter, map, option_and_then, slice_get, sum, sum_by}
use Rattle.std.proofs.lemmas.Bool.Decides.{nat_tests}
use Rattle.std.proofs.lemmas.List.Sums.{sum-map, sum_by-cons}
use Rattle.types.specs.declared.ty.Ty.{Ty}
use Rattle.world.specs.Lookups.{layout_of}
use Rattle.mir.specs.declared.body.Local.{Local}
use Rattle.source_meaning.specs.Core.{is_place}
use Rattle.source_meaning.specs.Entering.{below, body_room, cell_room, has_cell, room_of}
use Rattle.source_meaning.specs.Source.{Source, Cell, Result, Node, Binding, IndexOf, Never, cell_type, unadjusted, root, same_cell}
use Rattle.mir_graph.specs.Graph.{Shape, local_of}
use Rattle.mir_lower.specs.Growth.{IsSound, IsStored}
use Rattle.mir_lower.proofs.Beginning.{typed-below}
use Rattle.mir_lower.proofs.Holding.{cells}

-- a weight of cells, with nothing at one of them
without : Cell → (Cell → ℕ) → Cell → ℕ
without c g d = cond (same_cell c d) 0 (g d)

elsewhere : (c d : Cell) (g : Cell → ℕ) → c ≢ d → without c g d ≡ g d
unfolding without
elsewhere c d g differ = ⊎_elim (λ one. absurd (differ one.0)) (λ two. ap (λ b. cond b 0 (g d)) two.1) (cells c d)

nothing-there : (c d : Cell) (g : Cell → ℕ) → c ≡ d → without c g d ≡ 0
unfolding without
nothing-there c d g same = ⊎_elim (λ one. ap (λ b. cond b 0 (g d)) one.1) (λ two. absurd (two.0 same)) (cells c d)

no-more-there : (c d : Cell) (g : Cell → ℕ) → without c g d ≤ g d
no-more-there c d g =
    ⊎_elim (λ one. let none = nothing-there c d g one.0 in omega arith) (λ two. let same = elsewhere c d g two.0 in omega arith) (cells c d)

-- a number is one of a list
Among : List ℕ → ℕ → Type 0
Among [] i = ⊥
Among (j ∷ list) i = (j ≡ i) ⊎ Among list i

among-below : (n i : ℕ) → i < n → Among (below n) i
unfolding below Among
among-below zero i less = absurd (omega arith)
among-below (suc n) i less =
    let upto : i ≤ n = omega arith in
    ⊎_elim (λ same. inl (sym same)) (λ lower. inr (among-below n i lower)) (eq-or-lt_of_le upto)

among-kept : (test : ℕ → Bool) (list : List ℕ) (i : ℕ) → Among list i → test i ≡ true → Among (filter test list) i
unfolding Among
among-kept test [] i within passes = within
among-kept test (j ∷ list) i within passes = by-test (test j) refl (λ later. among-kept test list i later passes) within where
  by-test : (b : Bool) → test j ≡ b → (Among list i → Among (filter test list) i) → (j ≡ i) ⊎ Among list i → Among (cond b (j ∷ filter test list) (filter test list)) i
  by-test true is rest within = ⊎_elim (λ same. inl same) (λ later. inr (rest later)) within
  by-test false is rest within = ⊎_elim (λ same. let fails : test i ≡ false = ap test (sym same) ∙ is in absurd cc) rest within

-- cells that are counted by numbers, as expressions and bindings are: with nothing at one cell they weigh no more, and with
-- nothing at one of them less by as much as that weighs
module _ (of : ℕ → Cell) where
  weight : (Cell → ℕ) → List ℕ → ℕ
  weight g list = sum_by (λ i. g (of i)) list

  one-more : (g : Cell → ℕ) (i : ℕ) (list : List ℕ) → weight g (i ∷ list) ≡ g (of i) + weight g list
  unfolding weight
  one-more g i list = sum_by-cons (λ j. g (of j)) i list

  no-more : (c : Cell) (g : Cell → ℕ) (list : List ℕ) → weight (without c g) list ≤ weight g list
  unfolding weight
  no-more c g [] = omega arith
  no-more c g (i ∷ list) =
      let less = one-more (without c g) i list in
      let all = one-more g i list in
      let there = no-more-there c (of i) g in
      let rest = no-more c g list in
      omega arith

  less-by-one : (g : Cell → ℕ) (i : ℕ) (list : List ℕ) → Among list i → g (of i) + weight (without (of i) g) list ≤ weight g list
  unfolding Among
  less-by-one g i [] within = absurd within
  less-by-one g i (j ∷ list) within =
      let less = one-more (without (of i) g) j list in
      let all = one-more g j list in
      let there = no-more-there (of i) (of j) g in
      ⊎_elim
      (λ same.
      let none = nothing-there (of i) (of j) g (ap of (sym same)) in
      let equal : g (of j) ≡ g (of i) = ap (λ k. g (of k)) same in
      let rest = no-more (of i) g list in
      omega arith)
      (λ later. let rest = less-by-one g i list later in omega arith)
      within

-- the cells that the source counts: those of expressions, of their `!`, of their indices, and of bindings
module _ (source : Source) where
  expressions : List ℕ
  expressions = filter (has_cell source) (below (length source.body.exprs))

  all : List ℕ
  all = below (length source.body.exprs)

  bindings : List ℕ
  bindings = below (length source.body.bindings)

  total : (Cell → ℕ) → ℕ
  total g = weight Node g expressions + weight Never g all + weight IndexOf g all + weight Binding g bindings

  IsCounted : Cell → Type 0
  IsCounted Result = ⊥
  IsCounted (Node e) = Among expressions e
  IsCounted (Binding b) = Among bindings b
  IsCounted (Never e) = Among all e
  IsCounted (IndexOf e) = Among all e

  counts-one : (g : Cell → ℕ) (c : Cell) → IsCounted c → g c + total (without c g) ≤ total g
  unfolding total IsCounted
  counts-one g c counted = by-kind c counted (no-more Node c g expressions) (no-more Never c g all) (no-more IndexOf c g all) (no-more Binding c g bindings) where
    by-kind : (c : Cell) → IsCounted c → weight Node (without c g) expressions ≤ weight Node g expressions → weight Never (without c g) all ≤ weight Never g all → weight IndexOf (without c g) all ≤ weight IndexOf g all → weight Binding (without c g) bindings ≤ weight Binding g bindings →
        g c + total (without c g) ≤ total g
    by-kind Result counted nodes nevers indices bound = absurd counted
    by-kind (Node e) counted nodes nevers indices bound = let one = less-by-one Node g e expressions counted in omega arith
    by-kind (Never e) counted nodes nevers indices bound = let one = less-by-one Never g e all counted in omega arith
    by-kind (IndexOf e) counted nodes nevers indices bound = let one = less-by-one IndexOf g e all counted in omega arith
    by-kind (Binding b) counted nodes nevers indices bound = let one = less-by-one Binding g b bindings counted in omega arith

  -- what each of a list weighs no more than a cell that is counted, and that no other of the list has
  fits-total : {A : Type 0} (weigh : A → ℕ) (list : List A) (has : ℕ → Cell → Type 0) (g : Cell → ℕ) →
      ((i : ℕ) (x : A) → slice_get list i ≡ Some x → (c : Cell) × has i c × IsCounted c × (weigh x ≤ g c)) →
      ((i j : ℕ) (c : Cell) → has i c → has j c → i ≡ j) → sum_by weigh list ≤ total g
  fits-total weigh [] has g each own = omega arith
  fits-total weigh (x ∷ list) has g each own =
      let first = each 0 x refl in
      let rest = fits-total weigh list (λ i c. has (suc i) c) (without first.0 g)
      (λ i y found.
      let at = each (suc i) y found in
      let other : first.0 ≢ at.0 = λ same. (let none : 0 ≡ suc i = own 0 (suc i) at.0 (subst (has 0) same first.1) at.1 in absurd (omega arith)) in
      let alike = elsewhere first.0 at.0 g other in
      let fits = at.3 in
      let fits' : weigh y ≤ without first.0 g at.0 = omega arith in
      (at.0, at.1, at.2, fits'))
      (λ i j c one other. let same = own (suc i) (suc j) c one other in omega arith) in
      let taken = counts-one g first.0 first.2 in
      let fits = first.3 in
      let all = sum_by-cons weigh x list in
      omega arith

  -- where a cell is counted: the result is at the root
  place : Cell → Cell
  place Result = Node (root source)
  place (Node e) = Node e
  place (Binding b) = Binding b
  place (Never e) = Never e
  place (IndexOf e) = IndexOf e

  place-type : (c : Cell) → cell_type source (place c) ≡ cell_type source c
  unfolding place
  place-type Result = refl
  place-type (Node e) = refl
  place-type (Binding b) = refl
  place-type (Never e) = refl
  place-type (IndexOf e) = refl

  -- no two cells that are given a local are counted at one place
  place-own : (c d : Cell) → IsStored source c → IsStored source d → place c ≡ place d → c ≡ d
  unfolding place
  place-own Result Result one other same = refl
  place-own Result (Node e) one other same = let is : root source ≡ e = cc in let less = other.2 in absurd (omega arith)
  place-own (Node e) Result one other same = let is : e ≡ root source = cc in let less = one.2 in absurd (omega arith)
  place-own Result _ one other same = cc
  place-own _ Result one other same = cc
  place-own _ _ one other same = same

  root-has-cell : has_cell source (root source) ≡ true
  root-has-cell = ap (λ b. not (is_place (unadjusted source (root source))) || b) (itself (root source)) ∙ or-true (not (is_place (unadjusted source (root source)))) where
    itself : (n : ℕ) → (n == n) ≡ true
    itself n = grind (arith, nat_tests)

    or-true : (b : Bool) → (b || true) ≡ true
    or-true true = refl
    or-true false = refl

  place-counted : (c : Cell) (ty : Ty) → root source < length source.body.exprs → IsStored source c → cell_type source c ≡ Some ty → IsCounted (place c)
  unfolding place IsCounted expressions all bindings
  place-counted Result ty within stored typed =
      among-kept (has_cell source) (below (length source.body.exprs)) (root source) (among-below (length source.body.exprs) (root source) within) root-has-cell
  place-counted (Node e) ty within stored typed =
      let less : e < length source.body.exprs = (let lower = stored.2 in omega arith) in
      among-kept (has_cell source) (below (length source.body.exprs)) e (among-below (length source.body.exprs) e less) (ap (λ b. not b || (e == root source)) stored.1)
  place-counted (Binding b) ty within stored typed = among-below (length source.body.bindings) b (typed-below source b ty typed)
  place-counted (Never e) ty within stored typed = among-below (length source.body.exprs) e stored.2
  place-counted (IndexOf e) ty within stored typed = among-below (length source.body.exprs) e stored.1.within

  total-is : total (cell_room source) ≡ body_room source
  unfolding total weight body_room expressions all bindings
  total-is =
      let nodes = sum-map (λ e. cell_room source (Node e)) (filter (has_cell source) (below (length source.body.exprs))) in
      let nevers = sum-map (λ e. cell_room source (Never e)) (below (length source.body.exprs)) in
      let indices = sum-map (λ e. cell_room source (IndexOf e)) (below (length source.body.exprs)) in
      let bound = sum-map (λ b. cell_room source (Binding b)) (below (length source.body.bindings)) in
      omega arith

  -- the cell at a place has the local
  abbrev HasLocal : Shape → ℕ → Cell → Type 0
  HasLocal s l at = (c : Cell) × IsStored source c × (local_of s c ≡ Some l) × (place c ≡ at)

  -- the locals of a graph take no more bytes than the source counts
  pub fits-room : (s : Shape) → root source < length source.body.exprs → IsSound source s → sum (map (λ local. room_of (layout_of source.world local.ty)) s.locals) ≤ body_room source
  fits-room s within sound =
      let weigh : Local → ℕ = λ local. room_of (layout_of source.world local.ty) in
      let fits = fits-total weigh s.locals (HasLocal s) (cell_room source) each own in
      let sums = sum-map weigh s.locals in
      let counted = total-is in
      omega arith
    where
      own : (i j : ℕ) (c : Cell) → HasLocal s i c → HasLocal s j c → i ≡ j
      own i j c one other =
          let same = place-own one.0 other.0 one.1 other.1 (one.3 ∙ sym other.3) in
          let found : Some i ≡ Some j = sym one.2 ∙ ap (local_of s) same ∙ other.2 in
          cc

      each : (l : ℕ) (local : Local) → slice_get s.locals l ≡ Some local → (c : Cell) × HasLocal s l c × IsCounted c × (room_of (layout_of source.world local.ty) ≤ cell_room source c)
      each l local found =
          let at = sound.allotted.cells l local found in
          let same : cell_room source (place at.0) ≡ room_of (layout_of source.world local.ty) = ap (λ ty. room_of (option_and_then (layout_of source.world) ty)) (place-type at.0 ∙ at.3) in
          let fits : room_of (layout_of source.world local.ty) ≤ cell_room source (place at.0) = omega arith in
          (place at.0, (at.0, at.1, at.2, refl), place-counted at.0 local.ty within at.1 at.3, fits)
