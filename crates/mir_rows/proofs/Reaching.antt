-- How far elements lead, of which at most two are indices.
use Rattle.std.proofs.Common.{◌≡◌, ℕ, zero, suc, ◌+◌, ◌<◌, ◌≤◌, Bool, true, false, ◌||◌, length, drop, get_or, Option, Some, None, refl, sym, ap, ◌∙◌, arith}
use Rattle.std.proofs.lemmas.List.{drop_all}
use Rattle.types.specs.declared.ty.Ty.{Ty}
use Rattle.world.specs.declared.database.HirDatabase.{HirDatabase}
use Rattle.mir.specs.declared.ids.LocalId.{LocalId}
use Rattle.mir.specs.declared.projection.ProjectionElem.TheVariants.{Index}
use Rattle.mir.specs.Elements.{PlaceElem}
use Rattle.mir.specs.Places.{added, elem_offset, elem_past, elem_type, element_offset, element_size, is_past, leads_past, offset_behind}
use Rattle.mir.specs.Projections.{Projection}
use Rattle.mir_rows.specs.declared.steps.Reach.{Reach}
use Rattle.mir_rows.specs.declared.steps.Step.{Step}
use Rattle.mir_rows.specs.Steps.{maybe_offset, maybe_past, reach_offset, reach_past, step_offset, step_past, IsStep, Reaches, StepsOn}
use Rattle.mir_rows.proofs.Walks.{added-zero, offset-next, past-next}

-- sums of numbers that there may be
pub added-apart : (one two three : Option ℕ) → added (added one two) three ≡ added one (added two three)
added-apart (Some a) (Some b) (Some c) = let same : (a + b) + c ≡ a + (b + c) = omega arith in ap Some same
added-apart (Some a) (Some b) None = refl
added-apart (Some a) None (Some c) = refl
added-apart (Some a) None None = refl
added-apart None (Some b) (Some c) = refl
added-apart None (Some b) None = refl
added-apart None None (Some c) = refl
added-apart None None None = refl

added-swapped : (one two : Option ℕ) → added one two ≡ added two one
added-swapped (Some a) (Some b) = let same : a + b ≡ b + a = omega arith in ap Some same
added-swapped (Some a) None = refl
added-swapped None (Some b) = refl
added-swapped None None = refl

pub added-nothing : (one : Option ℕ) → added one (Some 0) ≡ one
added-nothing (Some a) = let same : a + 0 ≡ a = omega arith in ap Some same
added-nothing None = refl

pub or-apart : (one two three : Bool) → ((one || two) || three) ≡ (one || (two || three))
or-apart true two three = refl
or-apart false two three = refl

or-swapped : (one two : Bool) → (one || two) ≡ (two || one)
or-swapped true true = refl
or-swapped true false = refl
or-swapped false true = refl
or-swapped false false = refl

pub or-none : (one : Bool) → (one || false) ≡ one
or-none true = refl
or-none false = refl

-- the step that an index takes is what its element leads to
module _ (world : HirDatabase) (index : LocalId) (ty : Ty) (step : Step) (is : IsStep world index ty step) (numbers : LocalId → Option ℕ) where
  step-leads : elem_offset world numbers (Index index) ty ≡ step_offset numbers step
  step-leads =
      ap (λ (l : Option ℕ). element_offset l (element_size world ty) (numbers index)) is.length
      ∙ ap (λ (s : Option ℕ). element_offset (Some step.length) s (numbers index)) is.stride
      ∙ ap (λ (i : LocalId). element_offset (Some step.length) (Some step.stride) (numbers i)) (sym is.by)

  step-tests : elem_past numbers (Index index) (Some ty) ≡ step_past numbers step
  step-tests = ap (λ (l : Option ℕ). is_past l (numbers index)) is.length ∙ ap (λ (i : LocalId). is_past (Some step.length) (numbers i)) (sym is.by)

module _ (world : HirDatabase) (index : LocalId) (ty : Ty) (step : Step) (is : IsStep world index ty step) (reach : Reach) where
  -- a step where there is none
  pub steps-first : reach.first ≡ None → StepsOn world (Index index) ty reach (record { offset = reach.offset; first = Some step; second = reach.second })
  steps-first none = record {
    offset = λ numbers.
        let second = maybe_offset numbers reach.second in
        let leads = step_offset numbers step in
        ap (λ (f : Option Step). added (added (Some reach.offset) (added (maybe_offset numbers f) second)) (elem_offset world numbers (Index index) ty)) none
        ∙ ap (added (added (Some reach.offset) (added (Some 0) second))) (step-leads world index ty step is numbers)
        ∙ ap (λ (o : Option ℕ). added (added (Some reach.offset) o) leads) (added-zero second)
        ∙ added-apart (Some reach.offset) second leads
        ∙ ap (added (Some reach.offset)) (added-swapped second leads);
    past = λ numbers.
        ap (λ (f : Option Step). (maybe_past numbers f || maybe_past numbers reach.second) || elem_past numbers (Index index) (Some ty)) none
        ∙ ap (λ (b : Bool). maybe_past numbers reach.second || b) (step-tests world index ty step is numbers)
        ∙ or-swapped (maybe_past numbers reach.second) (step_past numbers step);
  }

  -- a second one
  pub steps-second : reach.second ≡ None → StepsOn world (Index index) ty reach (record { offset = reach.offset; first = reach.first; second = Some step })
  steps-second none = record {
    offset = λ numbers.
        let first = maybe_offset numbers reach.first in
        let leads = step_offset numbers step in
        ap (λ (s : Option Step). added (added (Some reach.offset) (added first (maybe_offset numbers s))) (elem_offset world numbers (Index index) ty)) none
        ∙ ap (added (added (Some reach.offset) (added first (Some 0)))) (step-leads world index ty step is numbers)
        ∙ ap (λ (o : Option ℕ). added (added (Some reach.offset) o) leads) (added-nothing first)
        ∙ added-apart (Some reach.offset) first leads;
    past = λ numbers.
        ap (λ (s : Option Step). (maybe_past numbers reach.first || maybe_past numbers s) || elem_past numbers (Index index) (Some ty)) none
        ∙ ap (λ (b : Bool). b || elem_past numbers (Index index) (Some ty)) (or-none (maybe_past numbers reach.first))
        ∙ ap (λ (b : Bool). maybe_past numbers reach.first || b) (step-tests world index ty step is numbers);
  }

-- a field, which leads as far whatever numbers locals hold
module _ (world : HirDatabase) (elem : PlaceElem) (ty : Ty) (reach : Reach) where
  pub steps-field : ((numbers : LocalId → Option ℕ) → elem_past numbers elem (Some ty) ≡ false) → (more : ℕ) → ((numbers : LocalId → Option ℕ) → elem_offset world numbers elem ty ≡ Some more) →
      (offset : ℕ) → offset ≡ more + reach.offset → StepsOn world elem ty reach (record { offset = offset; first = reach.first; second = reach.second })
  steps-field within more leads offset is = record {
    offset = λ numbers.
        let steps = added (maybe_offset numbers reach.first) (maybe_offset numbers reach.second) in
        let sum : reach.offset + more ≡ offset = omega (arith, is) in
        ap (added (added (Some reach.offset) steps)) (leads numbers)
        ∙ added-apart (Some reach.offset) steps (Some more)
        ∙ ap (added (Some reach.offset)) (added-swapped steps (Some more))
        ∙ sym (added-apart (Some reach.offset) (Some more) steps)
        ∙ ap (λ (n : ℕ). added (Some n) steps) sum;
    past = λ numbers. ap (λ (b : Bool). reach_past numbers reach || b) (within numbers) ∙ or-none (reach_past numbers reach);
  }

-- a reach leads as far as the elements before one, and as those from there on lead the whole lead
pub record Led (world : HirDatabase) (elements : Projection) (ty : Option Ty) (i : ℕ) (seen : Option Ty) (reach : Reach) : Type 0 where
  pub offset : (numbers : LocalId → Option ℕ) → added (reach_offset numbers reach) (offset_behind world numbers (drop i elements) seen) ≡ offset_behind world numbers elements ty
  pub past : (numbers : LocalId → Option ℕ) → (reach_past numbers reach || leads_past world numbers (drop i elements) seen) ≡ leads_past world numbers elements ty

module _ (world : HirDatabase) (elements : Projection) (ty : Option Ty) (i : ℕ) where
  -- and so with one more element
  pub led-on : (elem : PlaceElem) → i < length elements → elem ≡ get_or elements i elem → (seen : Ty) (reach more : Reach) → StepsOn world elem seen reach more → Led world elements ty i (Some seen) reach →
      Led world elements ty (i + 1) (elem_type world elem seen) more
  led-on elem less is seen reach more on led = record {
    offset = λ numbers.
        let behind = offset_behind world numbers (drop (i + 1) elements) (elem_type world elem seen) in
        ap (λ (o : Option ℕ). added o behind) (sym (on.offset numbers))
        ∙ added-apart (reach_offset numbers reach) (elem_offset world numbers elem seen) behind
        ∙ ap (added (reach_offset numbers reach)) (sym (offset-next elements i elem less is world numbers (Some seen)))
        ∙ led.offset numbers;
    past = λ numbers.
        let behind = leads_past world numbers (drop (i + 1) elements) (elem_type world elem seen) in
        ap (λ (b : Bool). b || behind) (sym (on.past numbers))
        ∙ or-apart (reach_past numbers reach) (elem_past numbers elem (Some seen)) behind
        ∙ ap (λ (b : Bool). reach_past numbers reach || b) (sym (past-next elements i elem less is world numbers (Some seen)))
        ∙ led.past numbers;
  }

  -- nothing leads nowhere
  pub led-first : (reach : Reach) → reach.offset ≡ 0 → reach.first ≡ None → reach.second ≡ None → Led world elements ty 0 ty reach
  led-first reach none first second = by (reach.offset) none reach.first first reach.second second where
    by : (offset : ℕ) → offset ≡ 0 → (one : Option Step) → one ≡ None → (two : Option Step) → two ≡ None → Led world elements ty 0 ty (record { offset = offset; first = one; second = two })
    by zero nil None is None are = record {
      offset = λ numbers. added-zero (offset_behind world numbers elements ty);
      past = λ numbers. refl;
    }
    by (suc n) nil one is two are = absurd cc
    by zero nil (Some step) is two are = absurd cc
    by zero nil None is (Some step) are = absurd cc

  -- once no element is left, the reach is that of all
  pub led-last : length elements ≤ i → (seen : Option Ty) (reach : Reach) → Led world elements ty i seen reach → Reaches world elements ty reach
  unfolding offset_behind leads_past
  led-last none seen reach led = record {
    offset = λ numbers.
        sym (led.offset numbers)
        ∙ ap (λ (es : Projection). added (reach_offset numbers reach) (offset_behind world numbers es seen)) (drop_all i elements none)
        ∙ added-nothing (reach_offset numbers reach);
    past = λ numbers.
        sym (led.past numbers)
        ∙ ap (λ (es : Projection). reach_past numbers reach || leads_past world numbers es seen) (drop_all i elements none)
        ∙ or-none (reach_past numbers reach);
  }
