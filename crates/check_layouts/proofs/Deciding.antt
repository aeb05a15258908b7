-- Answers that decide facts, put together from the answers to their parts.
use Rattle.std.proofs.Common.{◌≡◌, ℕ, zero, suc, ◌+◌, ◌<◌, ◌≤◌, ◌&&◌, Bool, true, false, eqb, leb, ltb, inl, inr, List, [], ◌∷◌, length, Option, Some, None, slice_get, IfSome, IfOk, Result, Ok, Err, Decides, refl, sym, subst, arith, below_more}
use Rattle.std.proofs.lemmas.Bool.{cases_lt, false≢true}
use Rattle.std.proofs.lemmas.Bool.Decides.{Decides-and, Decides-eqb, Decides-like, Decides-ltb, nat_tests}
use Rattle.std.proofs.lemmas.Option.{slice_get_past}

-- an answer to whether a fact holds
abbrev pub Answer : Type 0 → Type 0
Answer P = (b : Bool) × Decides b P

pub yes : {P : Type 0} → P → Decides true P
yes p = ((λ e. p), (λ q. refl))

pub no : {P : Type 0} → (P → ⊥) → Decides false P
no wrong = ((λ e. absurd (false≢true e)), (λ p. absurd (wrong p)))

-- two facts that follow from each other have the same answers
pub like : {P Q : Type 0} → (P → Q) → (Q → P) → Answer P → Answer Q
like to from a = (a.0, Decides-like a.0 to from a.1)

pub both_of : {P Q : Type 0} → Answer P → Answer Q → Answer (P × Q)
both_of a b = (a.0 && b.0, Decides-and a.0 b.0 a.1 b.1)

-- an answer that may fail for want of memory
pub like_ok : {P Q E : Type 0} (r : Result Bool E) → (P → Q) → (Q → P) → IfOk r (λ b. Decides b P) → IfOk r (λ b. Decides b Q)
like_ok (Ok b) to from h = Decides-like b to from h
like_ok (Err e) to from h = tt

-- the fact is asked of what was found
pub found_ok : {X E : Type 0} (fact : X → Type 0) (found : Option X) (x : X) (r : Result Bool E) → Some x ≡ found → IfOk r (λ b. Decides b (fact x)) → IfOk r (λ b. Decides b (IfSome found fact))
found_ok fact found x r is h = subst (λ o. IfOk r (λ b. Decides b (IfSome o fact))) is h

-- Numbers.

at_most_is : (m n : ℕ) → leb m n ≡ true → m ≤ n
at_most_is m n e = grind (arith, nat_tests)

is_at_most : (m n : ℕ) → m ≤ n → leb m n ≡ true
is_at_most m n h = grind (arith, nat_tests)

pub at_most : (m n : ℕ) → Answer (m ≤ n)
at_most m n = (leb m n, (at_most_is m n, is_at_most m n))

pub below : (m n : ℕ) → Answer (m < n)
below m n = (ltb m n, Decides-ltb m n)

pub same : (m n : ℕ) → Answer (m ≡ n)
same m n = (eqb m n, Decides-eqb m n)

-- What there may be.

pub there : {X : Type 0} (fact : X → Type 0) (found : Option X) → ((x : X) → found ≡ Some x → fact x) → IfSome found fact
there fact None h = tt
there fact (Some x) h = h x refl

pub of_there : {X : Type 0} (fact : X → Type 0) (found : Option X) (x : X) → found ≡ Some x → IfSome found fact → fact x
of_there fact None x at h = cc
of_there fact (Some y) x at h = let e : y ≡ x = cc in subst fact e h

pub if_there : {X : Type 0} (fact : X → Type 0) (found : Option X) → ((x : X) → Answer (fact x)) → Answer (IfSome found fact)
if_there fact None h = (true, yes tt)
if_there fact (Some x) h = h x

-- each element of a list
pub if_each : {X : Type 0} (fact : ℕ → X → Type 0) (xs : List X) → ((k : ℕ) (x : X) → Answer (fact k x)) → Answer ((k : ℕ) → IfSome (slice_get xs k) (fact k))
if_each fact [] h = (true, yes (λ k. tt))
if_each fact (x ∷ xs) h = like all (λ each. (each 0, λ k. each (suc k))) (both_of (h 0 x) (if_each (λ k. fact (suc k)) xs (λ k y. h (suc k) y)))
  where
    all : fact 0 x × ((k : ℕ) → IfSome (slice_get xs k) (fact (suc k))) → (k : ℕ) → IfSome (slice_get (x ∷ xs) k) (fact k)
    all h zero = h.0
    all h (suc k) = h.1 k

-- A walk over a list, which looks at each element in turn.
module _ {X : Type 0} (fact : ℕ → X → Type 0) (xs : List X) (k : ℕ) where
  -- the facts of the elements before the one at `k`
  abbrev Before : ℕ → Type 0
  Before n = (j : ℕ) → j < n → IfSome (slice_get xs j) (fact j)

  -- the element at `k` has its fact: the walk continues with the next
  pub walk_next : (x : X) → slice_get xs k ≡ Some x → fact k x → Before k → Before (k + 1)
  walk_next x at holds before = below_more (λ j. IfSome (slice_get xs j) (fact j)) k before (subst (λ o. IfSome o (fact k)) (sym at) holds)

  -- it has not
  pub walk_fails : (x : X) → slice_get xs k ≡ Some x → (fact k x → ⊥) → ((j : ℕ) → IfSome (slice_get xs j) (fact j)) → ⊥
  walk_fails x at wrong all = wrong (of_there (fact k) (slice_get xs k) x at (all k))

  -- at the end each element has its fact
  pub walk_end : length xs ≤ k → Before k → (j : ℕ) → IfSome (slice_get xs j) (fact j)
  walk_end past before j =
      elim (cases_lt j k) [
        | inl inside ↦ before j inside
        | inr out ↦ subst (λ o. IfSome o (fact j)) (sym (slice_get_past xs j (omega arith))) tt
      ]
