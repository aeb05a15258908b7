-- How a walk over a list finds the first element that fails a test.
use Rattle.std.proofs.Common.{◌≡◌, ℕ, suc, ◌+◌, ◌<◌, ◌≤◌, Bool, true, false, cond, List, length, get_or, Option, None, Some, drop, sym, ◌∙◌, ap, add-one, drop-cons}
use Rattle.std.proofs.lemmas.List.{drop_all}
use Rattle.world.specs.Failing.{first_failing}

unfold_failing : {X : Type 0} (f : ℕ → X → Bool) (xs : List X) (i : ℕ) (x d : X) → i < length xs → x ≡ get_or xs i d → first_failing f i (drop i xs) ≡ cond (f i x) (first_failing f (i + 1) (drop (i + 1) xs)) (Some i)
unfold_failing f xs i x d h e =
    ap (λ ys. first_failing f i ys) (drop-cons xs i d h)
    ∙ ap (λ y. cond (f i y) (first_failing f (i + 1) (drop (suc i) xs)) (Some i)) (sym e)
    ∙ ap (λ j. cond (f i x) (first_failing f (i + 1) (drop j xs)) (Some i)) (sym (add-one i))

-- a row passes the test: the loop continues with the next
pub failing_next : {X : Type 0} (f : ℕ → X → Bool) (xs : List X) (i : ℕ) (x d : X) (r : Option ℕ) → i < length xs → x ≡ get_or xs i d → f i x ≡ true → first_failing f i (drop i xs) ≡ r → first_failing f (i + 1) (drop (i + 1) xs) ≡ r
failing_next f xs i x d r h e passes whole =
    ap (λ b. cond b (first_failing f (i + 1) (drop (i + 1) xs)) (Some i)) (sym passes) ∙ sym (unfold_failing f xs i x d h e) ∙ whole

-- a row fails the test: it is the first
pub failing_here : {X : Type 0} (f : ℕ → X → Bool) (xs : List X) (i : ℕ) (x d : X) (r : Option ℕ) → i < length xs → x ≡ get_or xs i d → f i x ≡ false → first_failing f i (drop i xs) ≡ r → Some i ≡ r
failing_here f xs i x d r h e fails whole =
    ap (λ b. cond b (first_failing f (i + 1) (drop (i + 1) xs)) (Some i)) (sym fails) ∙ sym (unfold_failing f xs i x d h e) ∙ whole

pub failing_end : {X : Type 0} (f : ℕ → X → Bool) (xs : List X) (i : ℕ) (r : Option ℕ) → length xs ≤ i → first_failing f i (drop i xs) ≡ r → None ≡ r
failing_end f xs i r h whole = sym (ap (λ ys. first_failing f i ys) (drop_all i xs h)) ∙ whole
