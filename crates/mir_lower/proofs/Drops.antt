-- Leaving the cells of a scope, from the last back.
use Rattle.std.proofs.Common.{◌≡◌, ℕ, zero, suc, Some, ◌+◌, ◌<◌, ◌≤◌, Bool, true, false, cond, List, [], ◌∷◌, ◌++◌, length, take, drop, refl, sym, ap, ◌∙◌, subst, arith, ◌⊎◌, inr, ⊎_elim, append_assoc, append-nil, length-append}
use Rattle.std.specs.Prelude.{filter, slice_get, option_map}
use Rattle.std.proofs.lemmas.Option.{slice_get-map}
use Rattle.mir_graph.specs.declared.graph.Marked.{Marked}
use Rattle.std.proofs.Math.Seq.{take-append_seam, drop-append_seam}
use Rattle.source_meaning.specs.Source.{Source, Cell, is_dropped, drops}
use Rattle.mir_graph.specs.Graph.{Shape, cell_of, cells_of, with_scope, with_mark}
use Rattle.mir_lower.specs.Growth.{IsSound, IsOpen}
use Rattle.mir_lower.specs.Leaving.{Idles, one_if}
use Rattle.mir_graph.proofs.Lists.{drop-at}
use Rattle.mir_lower.proofs.Leaving.{idles-refl, idles-trans, idles-scoped}
use Rattle.mir_lower.proofs.Sound.{with_scope-sound, with_scope-open}

count-first : (b : Bool) (c : Cell) (rest : List Cell) → length (cond b (c ∷ rest) rest) ≡ length rest + one_if b
count-first true c rest = omega arith
count-first false c rest = omega arith

drops-first : (source : Source) (first : Cell) (rest : List Cell) → drops source (first ∷ rest) ≡ drops source rest + one_if (is_dropped source first)
drops-first source first rest = count-first (is_dropped source first) first (filter (is_dropped source) rest)

-- some of the last cells in use were left, and nothing else was done
pub record HasLeft (source : Source) (old new : Shape) : Type 0 where
  pub cells : List Cell
  pub split : old.scope ≡ new.scope ++ cells
  pub idles : Idles source (with_scope new.scope old) new (drops source cells)

pub none-left : (source : Source) (s : Shape) → IsSound source s → IsOpen s → HasLeft source s s
none-left source s sound opened = record { cells = []; split = sym (append-nil s.scope); idles = idles-refl source s sound opened }

-- the last mark was taken back
module _ (s0 s1 : Shape) (c : Cell) (marked : s0 ≡ with_mark c s1) where
  pub without-mark : with_scope s1.scope s0 ≡ s1
  without-mark = ap (with_scope s1.scope) marked

  pub without-mark-sound : (source : Source) → IsSound source s0 → IsSound source s1
  without-mark-sound source sound = subst (IsSound source) without-mark (with_scope-sound source s1.scope s0 sound)

  pub without-mark-open : IsOpen s0 → IsOpen s1
  without-mark-open opened = subst IsOpen without-mark (with_scope-open s1.scope s0 opened)

  pub fewer-marks : length s1.scope < length s0.scope
  fewer-marks =
      let same : s0.scope ≡ s1.scope ++ c ∷ [] = ap (λ (s : Shape). s.scope) marked in
      let long : length s0.scope ≡ length (s1.scope ++ c ∷ []) = ap length same in
      let one = length-append s1.scope (c ∷ []) in
      omega arith

-- the last cell is left too
pub one-left : (source : Source) (s0 s1 s2 s3 : Shape) (c : Cell) → HasLeft source s0 s1 → s1 ≡ with_mark c s2 → Idles source s2 s3 (one_if (is_dropped source c)) → HasLeft source s0 s3
one-left source s0 s1 s2 s3 c before marked next =
    let last : s1.scope ≡ s3.scope ++ c ∷ [] = ap (λ (s : Shape). s.scope) marked ∙ ap (λ (scope : List Cell). scope ++ c ∷ []) (sym next.scope) in
    let same : with_scope s3.scope s1 ≡ s2 = ap (λ (scope : List Cell). with_scope scope s1) next.scope ∙ without-mark s1 s2 c marked in
    let first : Idles source (with_scope s3.scope s0) s2 (drops source before.cells) =
    subst (λ (s : Shape). Idles source (with_scope s3.scope s0) s (drops source before.cells)) same
    (idles-scoped source (with_scope s1.scope s0) s1 (drops source before.cells) s3.scope before.idles) in
    record {
      cells = c ∷ before.cells;
      split = before.split ∙ ap (λ (scope : List Cell). scope ++ before.cells) last ∙ append_assoc s3.scope (c ∷ []) before.cells;
      idles = subst (λ (n : ℕ). Idles source (with_scope s3.scope s0) s3 n) (sym (drops-first source c before.cells))
          (idles-trans source (with_scope s3.scope s0) s2 s3 (drops source before.cells) (one_if (is_dropped source c)) first next);
    }

-- as many cells were left as there were behind the first ones
pub all-left : (source : Source) (s0 s1 : Shape) (n : ℕ) → HasLeft source s0 s1 → length s1.scope ≤ n → n ≤ length s1.scope → Idles source (with_scope (take n s0.scope) s0) s1 (drops source (drop n s0.scope))
all-left source s0 s1 n left most least =
    let many : length s1.scope ≡ n = omega arith in
    let first : take n s0.scope ≡ s1.scope =
    ap (take n) left.split ∙ ap (λ (m : ℕ). take m (s1.scope ++ left.cells)) (sym many) ∙ take-append_seam s1.scope left.cells in
    let rest : drop n s0.scope ≡ left.cells =
    ap (drop n) left.split ∙ ap (λ (m : ℕ). drop m (s1.scope ++ left.cells)) (sym many) ∙ drop-append_seam s1.scope left.cells in
    subst (λ (scope : List Cell). Idles source (with_scope scope s0) s1 (drops source (drop n s0.scope))) (sym first)
    (subst (λ (cells : List Cell). Idles source (with_scope s1.scope s0) s1 (drops source cells)) (sym rest) left.idles)

-- What came into use since a scope was opened is what is left with it.
module _ (s0 s1 : Shape) (n : ℕ) (inner : List Cell) (opened : n ≡ length s0.scope) (since : s1.scope ≡ s0.scope ++ inner) where
  pub opened-within : n ≤ length s1.scope
  opened-within =
      let long : length s1.scope ≡ length (s0.scope ++ inner) = ap length since in
      let both = length-append s0.scope inner in
      omega arith

  pub scope-left : (source : Source) (s2 : Shape) → Idles source (with_scope (take n s1.scope) s1) s2 (drops source (drop n s1.scope)) → Idles source (with_scope s0.scope s1) s2 (drops source inner)
  scope-left source s2 idles =
      let first : take n s1.scope ≡ s0.scope = ap (take n) since ∙ ap (λ (m : ℕ). take m (s0.scope ++ inner)) opened ∙ take-append_seam s0.scope inner in
      let rest : drop n s1.scope ≡ inner = ap (drop n) since ∙ ap (λ (m : ℕ). drop m (s0.scope ++ inner)) opened ∙ drop-append_seam s0.scope inner in
      subst (λ (scope : List Cell). Idles source (with_scope scope s1) s2 (drops source inner)) first
      (subst (λ (cells : List Cell). Idles source (with_scope (take n s1.scope) s1) s2 (drops source cells)) rest idles)

-- one more cell was left, while all stay marked
pub marked-left : (source : Source) (s0 s1 s2 : Shape) (items : List Marked) (marked : Marked) (k : ℕ) → s1.scope ≡ cells_of items → slice_get items k ≡ Some marked → Idles source s0 s1 (drops source (drop (suc k) s0.scope)) → Idles source s1 s2 (one_if (is_dropped source (cell_of marked.held))) → Idles source s0 s2 (drops source (drop k s0.scope))
marked-left source s0 s1 s2 items marked k same found before next =
    let scope : s0.scope ≡ cells_of items = sym before.scope ∙ same in
    let there : slice_get s0.scope k ≡ Some (cell_of marked.held) =
    ap (λ (cells : List Cell). slice_get cells k) scope ∙ slice_get-map (λ (m : Marked). cell_of m.held) items k ∙ ap (option_map (λ (m : Marked). cell_of m.held)) found in
    let count : drops source (drop (suc k) s0.scope) + one_if (is_dropped source (cell_of marked.held)) ≡ drops source (drop k s0.scope) =
    sym (ap (drops source) (drop-at s0.scope k (cell_of marked.held) there) ∙ drops-first source (cell_of marked.held) (drop (suc k) s0.scope)) in
    subst (λ (n : ℕ). Idles source s0 s2 n) count (idles-trans source s0 s1 s2 (drops source (drop (suc k) s0.scope)) (one_if (is_dropped source (cell_of marked.held))) before next)

drop-past : {A : Type 0} (xs : List A) (n : ℕ) → length xs ≤ n → drop n xs ≡ []
drop-past [] zero most = refl
drop-past [] (suc n) most = refl
drop-past (x ∷ xs) zero most = absurd (omega arith)
drop-past (x ∷ xs) (suc n) most = drop-past xs n (omega arith)

-- none of the marked cells was left yet
pub nothing-left : (source : Source) (s0 : Shape) (token left : ℕ) → left ≡ length s0.scope → IsSound source s0 → IsOpen s0 → ((token ≤ left) ⊎ (left ≡ length s0.scope)) × (left ≤ length s0.scope) × Idles source s0 s0 (drops source (drop left s0.scope))
nothing-left source s0 token left all sound opened =
    (inr all, omega arith, subst (λ (cells : List Cell). Idles source s0 s0 (drops source cells)) (sym (drop-past s0.scope left (omega arith))) (idles-refl source s0 sound opened))

-- all that are marked behind a place were left
pub left-as-marked : (source : Source) (s0 s1 : Shape) (token left : ℕ) → left ≤ token → (token ≤ left) ⊎ (left ≡ length s0.scope) → Idles source s0 s1 (drops source (drop left s0.scope)) → Idles source s0 s1 (drops source (drop token s0.scope))
left-as-marked source s0 s1 token left most which idles =
    ⊎_elim
    (λ least. let same : left ≡ token = omega arith in subst (λ (n : ℕ). Idles source s0 s1 (drops source (drop n s0.scope))) same idles)
    (λ all. subst (λ (cells : List Cell). Idles source s0 s1 (drops source cells)) (drop-past s0.scope left (omega arith) ∙ sym (drop-past s0.scope token (omega arith))) idles)
    which
