-- How a value whose parts may be missing compares, by its parts.
use Rattle.std.proofs.Common.{◌≡◌, true, false, Option, Some, None, refl, sym, ◌∙◌, ap}
use Rattle.std.proofs.lemmas.Option.{none-some, same_Some}
use Rattle.std.specs.Option.{option_map}
use Rattle.std.specs.Ordering.{is_ne, ordering_then}
use Rattle.std.specs.declared.cmp.Ordering.{Ordering}
use Rattle.check_instances.specs.Comparisons.{Compares}
use Rattle.check_instances.specs.Instances.{with_both}
use Rattle.check_instances.proofs.Following.{then_differs, then_ties}

module _ {A B : Type 0} (f : A → B) (part : Option A) (whole : Option B) (compare : B → Ordering) (r : Ordering) where
  -- a value with one part
  pub of_one : whole ≡ option_map f part → ((x : A) → part ≡ Some x → r ≡ compare (f x)) → Compares whole compare r
  of_one is = by part is
    where
      by : (p : Option A) → whole ≡ option_map f p → ((x : A) → p ≡ Some x → r ≡ compare (f x)) → Compares whole compare r
      by None is compares made there = absurd (none-some made (sym is ∙ there))
      by (Some x) is compares made there = compares x refl ∙ ap compare (same_Some (f x) made (sym is ∙ there))

module _ {A B C : Type 0} (f : A → B → C) (first : Option A) (second : Option B) (whole : Option C) (compare : C → Ordering) where
  -- a value with two
  pub of_two : (r : Ordering) → whole ≡ with_both f first second → ((x : A) (y : B) → first ≡ Some x → second ≡ Some y → r ≡ compare (f x y)) → Compares whole compare r
  of_two r is = by first second is
    where
      by : (p : Option A) (q : Option B) → whole ≡ with_both f p q → ((x : A) (y : B) → p ≡ Some x → q ≡ Some y → r ≡ compare (f x y)) → Compares whole compare r
      by None q is compares made there = absurd (none-some made (sym is ∙ there))
      by (Some x) None is compares made there = absurd (none-some made (sym is ∙ there))
      by (Some x) (Some y) is compares made there = compares x y refl refl ∙ ap compare (same_Some (f x y) made (sym is ∙ there))

  module _ (one : A → Ordering) (other : B → Ordering) (is : whole ≡ with_both f first second) (parts : (x : A) (y : B) → compare (f x y) ≡ ordering_then (one x) (other y)) where
    -- the first part differs
    pub two_differ : (r : Ordering) → Compares first one r → is_ne r ≡ true → Compares whole compare r
    two_differ r compares differs =
        of_two r is (λ x y at there. let e : ordering_then r (other y) ≡ r = then_differs r (other y) differs in sym (parts x y ∙ ap (λ o. ordering_then o (other y)) (sym (compares x at)) ∙ e))

    pub two_tie : (t r : Ordering) → Compares first one t → is_ne t ≡ false → Compares second other r → Compares whole compare r
    two_tie t r compares ties rest =
        of_two r is (λ x y at there. rest y there ∙ sym (parts x y ∙ ap (λ o. ordering_then o (other y)) (sym (compares x at)) ∙ then_ties t (other y) ties))

-- a value that is known, and one that is missing
pub of_known : {A : Type 0} (found : Option A) (x : A) (compare : A → Ordering) (r : Ordering) → found ≡ Some x → r ≡ compare x → Compares found compare r
of_known found x compare r is compares made there = compares ∙ ap compare (same_Some x made (sym is ∙ there))

pub of_none : {A : Type 0} (found : Option A) (compare : A → Ordering) (r : Ordering) → found ≡ None → Compares found compare r
of_none found compare r is made there = absurd (none-some made (sym is ∙ there))
