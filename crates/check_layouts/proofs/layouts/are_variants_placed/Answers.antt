use Rattle.std.proofs.Common.{◌≡◌, ℕ, ◌<◌, ◌≤◌, inl, inr, List, length, slice_get, IfSome, refl, sym, subst, arith}
use Rattle.std.proofs.lemmas.Bool.{cases_lt}
use Rattle.std.proofs.lemmas.Bool.Decides.{not_from_Decides}
use Rattle.std.proofs.lemmas.Option.{slice_get-get_or, slice_get_past, slice_get_read}
use Rattle.types.specs.declared.ids.EnumVariantId.{EnumVariantId}
use Rattle.types.specs.declared.ids.VariantId.TheVariants as variant
use Rattle.check_layouts.specs.Sizes.{layout_above}
use Rattle.check_layouts.specs.inner.Fields.{IsItemInside}
use Rattle.check_layouts.proofs.Deciding.{no, of_there, there, walk_end, walk_fails, walk_next, yes}
use Rattle.check_layouts.proofs.Found.{none_found}
use Rattle.check_layouts.proofs.layouts.are_variants_placed.Goals as goal

module _ (item : List ℕ → EnumVariantId → Type 0) (lists : List (List ℕ)) (ids : List EnumVariantId) where
  abbrev Both : ℕ → List ℕ → Type 0
  Both k offsets = IfSome (slice_get ids k) (item offsets)

  abbrev Before : ℕ → Type 0
  Before n = (j : ℕ) → j < n → IfSome (slice_get lists j) (Both j)

  -- past the last variant nothing is asked
  at_end : (items : List (List ℕ)) (k : ℕ) → items ≡ lists → length ids ≤ k → ((j : ℕ) → j < k → IfSome (slice_get items j) (Both j)) → (j : ℕ) → IfSome (slice_get lists j) (Both j)
  at_end items k same past before j =
      subst (λ xs. IfSome (slice_get xs j) (Both j)) same
      (elim (cases_lt j k) [
        | inl inside ↦ before j inside
        | inr out ↦ there (Both j) (slice_get items j) (λ offsets at. subst (λ o. IfSome o (item offsets)) (sym (slice_get_past ids j (omega arith))) tt)
      ])

pub loop-k-init : goal.loop-k-init
loop-k-init c = ((λ j h. absurd (omega arith)), none_found c.args.db.now c.args.i c.args.args.now c.new-sizes.result c.new-sizes.ensures)

pub returns-then-k-ids : goal.returns-then-k-ids
returns-then-k-ids c =
    let item = λ (offsets : List ℕ) (id : EnumVariantId). IsItemInside c.args.db.now (layout_above c.args.db.now c.args.i) c.args.size c.args.args.now offsets (variant.EnumVariantId id) in
    yes (at_end item c.args.lists.now c.args.ids.now c.as_slice-items.result.now c.loop-k.k c.as_slice-items.ensures (omega arith) c.loop-k.invariant.0)

pub returns-then-not-branch : goal.returns-then-not-branch
returns-then-not-branch c =
    let item = λ (offsets : List ℕ) (id : EnumVariantId). IsItemInside c.args.db.now (layout_above c.args.db.now c.args.i) c.args.size c.args.args.now offsets (variant.EnumVariantId id) in
    let here = slice_get_read c.as_slice-items.result.now (length c.as_slice-items.result.now) c.loop-k.k c.index-items-k.result refl c.loop-k-test.true c.index-items-k.is in
    let wrong = not_from_Decides c.in_ok-are_item_fields_placed.field-0 c.in_ok-are_item_fields_placed.ensures.right c.if-not-branch.true in
    no (λ all. walk_fails (Both item c.args.lists.now c.args.ids.now) c.as_slice-items.result.now c.loop-k.k c.index-items-k.result here
    (λ both. wrong (of_there (item c.index-items-k.result) (slice_get c.args.ids.now c.loop-k.k) _ (slice_get-get_or c.args.ids.now c.loop-k.k (record { 0 = 0 }) c.if-k-ids.false) both))
    (subst (λ items. (j : ℕ) → IfSome (slice_get items j) (Both item c.args.lists.now c.args.ids.now j)) (sym c.as_slice-items.ensures) all))

pub loop-k-preserved : goal.loop-k-preserved
loop-k-preserved c =
    let item = λ (offsets : List ℕ) (id : EnumVariantId). IsItemInside c.args.db.now (layout_above c.args.db.now c.args.i) c.args.size c.args.args.now offsets (variant.EnumVariantId id) in
    let here = slice_get_read c.as_slice-items.result.now (length c.as_slice-items.result.now) c.loop-k.k c.index-items-k.result refl c.loop-k-test.true c.index-items-k.is in
    let holds = c.in_ok-are_item_fields_placed.ensures.right.0 c.if-not-branch.false in (
      walk_next (Both item c.args.lists.now c.args.ids.now) c.as_slice-items.result.now c.loop-k.k c.index-items-k.result here
          (subst (λ o. IfSome o (item c.index-items-k.result)) (sym (slice_get-get_or c.args.ids.now c.loop-k.k (record { 0 = 0 }) c.if-k-ids.false)) holds)
          c.loop-k.invariant.0,
      c.in_ok-are_item_fields_placed.ensures.sizes,
    )

pub returns : goal.returns
returns c =
    let item = λ (offsets : List ℕ) (id : EnumVariantId). IsItemInside c.args.db.now (layout_above c.args.db.now c.args.i) c.args.size c.args.args.now offsets (variant.EnumVariantId id) in
    yes (subst (λ items. (j : ℕ) → IfSome (slice_get items j) (Both item c.args.lists.now c.args.ids.now j)) c.as_slice-items.ensures
    (walk_end (Both item c.args.lists.now c.args.ids.now) c.as_slice-items.result.now c.loop-k.k c.loop-k-test.false c.loop-k.invariant.0))
