-- The written fields of a struct literal and the arguments of a constructor, and the operands that they give to the fields of the struct.
use Rattle.std.proofs.Common.{◌≡◌, ℕ, zero, suc, ◌+◌, ◌<◌, ◌≤◌, ◌==◌, Bool, true, false, cond, List, [], ◌∷◌, ◌++◌, length, drop, get_or, slice_get, Option, Some, None, option_map, option_and_then, if◌then◌else◌, refl, sym, ap, ◌∙◌, subst, arith, ltb-true, append-nil, append_assoc, length-append}
use Rattle.std.specs.Prelude.{is_some, nat_lt, IsSome}
use Rattle.std.proofs.lemmas.List.{drop_all, drop_more, length-map}
use Rattle.types.specs.declared.ids.ExprId.{ExprId}
use Rattle.world.specs.declared.expr.RecordLitField.{RecordLitField}
use Rattle.world.specs.declared.items.FieldRow.{FieldRow}
use Rattle.world.specs.Nodes.{expr_numbers, field_numbers}
use Rattle.mir.specs.declared.operand.Operand.{Operand}
use Rattle.source_meaning.specs.Structs.{all_places, picked, place_named, places_from, places_in_order, places_named}
use Rattle.source_meaning.proofs.Structs.{picked-more, picked-none}
use Rattle.body_forms.specs.Structs.{arranged}

-- the elements from a place on are the one there and those behind it
pub from-here : {A : Type 0} (xs : List A) (i : ℕ) (x : A) → i < length xs → x ≡ get_or xs i x → drop i xs ≡ x ∷ drop (i + 1) xs
from-here {A} xs i x less is = drop_more xs i x less ∙ ap (λ (y : A). y ∷ drop (i + 1) xs) (sym is)

is-some-mapped : {A B : Type 0} (f : A → B) (x : Option A) → is_some (option_map f x) ≡ is_some x
is-some-mapped f (Some x) = refl
is-some-mapped f None = refl

-- whether all fields are written

module _ (fields : List FieldRow) (written : List RecordLitField) (i : ℕ) where
  module _ (field : FieldRow) (less : i < length fields) (is : field ≡ get_or fields i field) where
    pub named-next : (place : ℕ) (whole : Bool) → place_named field.name written ≡ Some place → is_some (places_named (drop i fields) written) ≡ whole → is_some (places_named (drop (i + 1) fields) written) ≡ whole
    unfolding places_named
    named-next place whole named same =
        sym (ap (λ (fs : List FieldRow). is_some (places_named fs written)) (from-here fields i field less is)
        ∙ ap (λ (at : Option ℕ). is_some (option_and_then (λ p. option_map (λ ps. p ∷ ps) (places_named (drop (i + 1) fields) written)) at)) named
        ∙ is-some-mapped (λ ps. place ∷ ps) (places_named (drop (i + 1) fields) written))
        ∙ same

    pub none-named : (whole : Bool) → place_named field.name written ≡ None → is_some (places_named (drop i fields) written) ≡ whole → false ≡ whole
    unfolding places_named
    none-named whole none same =
        sym (ap (λ (fs : List FieldRow). is_some (places_named fs written)) (from-here fields i field less is)
        ∙ ap (λ (at : Option ℕ). is_some (option_and_then (λ p. option_map (λ ps. p ∷ ps) (places_named (drop (i + 1) fields) written)) at)) none)
        ∙ same

  pub named-last : (whole : Bool) → length fields ≤ i → is_some (places_named (drop i fields) written) ≡ whole → true ≡ whole
  unfolding places_named
  named-last whole none same = sym (ap (λ (fs : List FieldRow). is_some (places_named fs written)) (drop_all i fields none)) ∙ same

-- the expressions of written fields

pub exprs-next : (written : List RecordLitField) (i : ℕ) (field : RecordLitField) (done exprs : List ExprId) (whole : List ℕ) → i < length written → field ≡ get_or written i field → exprs ≡ done ++ field.expr ∷ [] →
    expr_numbers done ++ field_numbers (drop i written) ≡ whole → expr_numbers exprs ++ field_numbers (drop (i + 1) written) ≡ whole
exprs-next written i field done exprs whole less is pushed same =
    ap (λ (es : List ExprId). expr_numbers es ++ field_numbers (drop (i + 1) written)) pushed
    ∙ numbers-more done
    ∙ ap (λ (fs : List RecordLitField). expr_numbers done ++ field_numbers fs) (sym (from-here written i field less is))
    ∙ same
  where
    numbers-more : (es : List ExprId) → expr_numbers (es ++ field.expr ∷ []) ++ field_numbers (drop (i + 1) written) ≡ expr_numbers es ++ (field.expr.0 ∷ field_numbers (drop (i + 1) written))
    numbers-more [] = refl
    numbers-more (e ∷ es) = ap (λ (rest : List ℕ). e.0 ∷ rest) (numbers-more es)

pub exprs-last : (written : List RecordLitField) (i : ℕ) (exprs : List ExprId) (whole : List ℕ) → length written ≤ i → expr_numbers exprs ++ field_numbers (drop i written) ≡ whole → expr_numbers exprs ≡ whole
exprs-last written i exprs whole none same =
    sym (append-nil (expr_numbers exprs)) ∙ ap (λ (fs : List RecordLitField). expr_numbers exprs ++ field_numbers fs) (sym (drop_all i written none)) ∙ same

-- operands in the order of the fields

-- those so far, before those of the fields that are left
abbrev pub arranged-with : List Operand → Option (List Operand) → Option (List Operand)
arranged-with done rest = option_map (λ (more : List Operand). done ++ more) rest

arranged-before : (done : List Operand) (operand : Operand) (rest : Option (List Operand)) → arranged-with done (option_map (λ (others : List Operand). operand ∷ others) rest) ≡ arranged-with (done ++ operand ∷ []) rest
arranged-before done operand (Some rest) = ap Some (sym (append_assoc done (operand ∷ []) rest))
arranged-before done operand None = refl

module _ (fields : List FieldRow) (written : List RecordLitField) (operands : List Operand) (i : ℕ) where
  module _ (field : FieldRow) (less : i < length fields) (is : field ≡ get_or fields i field) where
    arranged-here : arranged (drop i fields) written operands ≡ option_and_then (λ operand. option_map (λ others. operand ∷ others) (arranged (drop (i + 1) fields) written operands)) (option_and_then (slice_get operands) (place_named field.name written))
    unfolding arranged
    arranged-here = ap (λ (fs : List FieldRow). arranged fs written operands) (from-here fields i field less is)

    pub arranged-next : (place : ℕ) (operand : Operand) (done all : List Operand) (whole : Option (List Operand)) → place_named field.name written ≡ Some place → slice_get operands place ≡ Some operand → all ≡ done ++ operand ∷ [] →
        arranged-with done (arranged (drop i fields) written operands) ≡ whole → arranged-with all (arranged (drop (i + 1) fields) written operands) ≡ whole
    arranged-next place operand done all whole named there pushed same =
        let rest = arranged (drop (i + 1) fields) written operands in
        let at : option_and_then (slice_get operands) (place_named field.name written) ≡ Some operand = ap (option_and_then (slice_get operands)) named ∙ there in
        ap (λ (a : List Operand). arranged-with a rest) pushed
        ∙ sym (ap (arranged-with done) (arranged-here ∙ ap (option_and_then (λ o. option_map (λ others. o ∷ others) rest)) at) ∙ arranged-before done operand rest)
        ∙ same

    -- where a field has no operand, there are none in all
    pub arranged-none : (done : List Operand) (whole : Option (List Operand)) → option_and_then (slice_get operands) (place_named field.name written) ≡ None → arranged-with done (arranged (drop i fields) written operands) ≡ whole → whole ≡ None
    arranged-none done whole none same =
        let rest = arranged (drop (i + 1) fields) written operands in
        sym same ∙ ap (arranged-with done) (arranged-here ∙ ap (option_and_then (λ o. option_map (λ others. o ∷ others) rest)) none)

  pub arranged-last : (done : List Operand) (whole : Option (List Operand)) → length fields ≤ i → arranged-with done (arranged (drop i fields) written operands) ≡ whole → whole ≡ Some done
  unfolding arranged
  arranged-last done whole none same =
      sym same ∙ ap (λ (fs : List FieldRow). arranged-with done (arranged fs written operands)) (drop_all i fields none) ∙ ap Some (append-nil done)

slice_get_in : {A : Type 0} (xs : List A) (i : ℕ) → i < length xs → (x : A) × (slice_get xs i ≡ Some x)
slice_get_in [] i within = absurd (omega arith)
slice_get_in (y ∷ xs) zero within = (y, refl)
slice_get_in (y ∷ xs) (suc i) within = slice_get_in xs i (omega arith)

-- Where each field is written, and there is an operand for each written field, the operands are those at the places.

below-by : (k n place : ℕ) → cond (nat_lt k n) (Some k) None ≡ Some place → place < n
below-by k n place is = by_test (nat_lt k n) refl is
  where
    by_test : (test : Bool) → nat_lt k n ≡ test → cond test (Some k) None ≡ Some place → place < n
    by_test true less same = let at : k ≡ place = cc in subst (λ m. m < n) at (ltb-true k n less)
    by_test false less same = absurd cc

place-within : (name : List ℕ) (written : List RecordLitField) (place : ℕ) → place_named name written ≡ Some place → place < length written
place-within name written place is = below-by _ (length written) place is

pub record AreArranged (fields : List FieldRow) (written : List RecordLitField) (places : List ℕ) (operands : List Operand) : Type 0 where
  pub all : List Operand
  pub are : arranged fields written operands ≡ Some all
  pub picks : picked places operands ≡ Some all

split-places : {A : Type 0} (first : Option ℕ) (rest : Option (List ℕ)) (places : List ℕ) → option_and_then (λ place. option_map (λ others. place ∷ others) rest) first ≡ Some places →
    ((place : ℕ) (others : List ℕ) → first ≡ Some place → rest ≡ Some others → places ≡ place ∷ others → A) → A
split-places (Some place) (Some others) places is goal = goal place others refl refl (let same : place ∷ others ≡ places = cc in sym same)
split-places (Some place) None places is goal = absurd cc
split-places None rest places is goal = absurd cc

pub are-arranged : (fields : List FieldRow) (written : List RecordLitField) (places : List ℕ) (operands : List Operand) → places_named fields written ≡ Some places → length operands ≡ length written → AreArranged fields written places operands
unfolding places_named arranged
are-arranged [] written places operands is many =
    let same : places ≡ [] = cc in
    record { all = []; are = refl; picks = subst (λ ps. picked ps operands ≡ Some []) (sym same) (picked-none operands) }
are-arranged (field ∷ fields) written places operands is many =
    split-places (place_named field.name written) (places_named fields written) places is (λ place others named rest same.
    let within : place < length operands = subst (λ n. place < n) (sym many) (place-within field.name written place named) in
    let operand = slice_get_in operands place within in
    let later = are-arranged fields written others operands rest many in
    record {
      all = operand.0 ∷ later.all;
      are =
          ap (λ at. option_and_then (λ o. option_map (λ more. o ∷ more) (arranged fields written operands)) (option_and_then (slice_get operands) at)) named
          ∙ ap (option_and_then (λ o. option_map (λ more. o ∷ more) (arranged fields written operands))) operand.1
          ∙ ap (option_map (λ more. operand.0 ∷ more)) later.are;
      picks = subst (λ ps. picked ps operands ≡ Some (operand.0 ∷ later.all)) (sym same) (picked-more place others operands operand.0 later.all operand.1 later.picks);
    })

-- places of all fields are places of the written ones
pub all-are-named : (fields : List FieldRow) (written : List RecordLitField) (places : List ℕ) → all_places fields written ≡ Some places → places_named fields written ≡ Some places
all-are-named fields written places is = by_test (length fields == length written) is
  where
    by_test : (test : Bool) → if test then places_named fields written else None ≡ Some places → places_named fields written ≡ Some places
    by_test true is = is
    by_test false is = absurd cc

-- an option that has a value has one
pub the-value : {A : Type 0} (given : Option A) → IsSome given → (x : A) × (given ≡ Some x)
the-value (Some x) some = (x, refl)
the-value None some = absurd cc

pub none-has-none : {A : Type 0} (given : Option A) → given ≡ None → IsSome given → ⊥
none-has-none given none some = let never : false ≡ true = sym (ap is_some none) ∙ some in absurd cc

-- the operands that are given in the order of the fields are at the places from the first on

in-order-from : {A B : Type 0} (args : List A) (before operands : List B) → length operands ≡ length args → picked (places_from (length before) args) (before ++ operands) ≡ Some operands
unfolding places_from
in-order-from {B = B} [] before [] many = picked-none (before ++ [])
in-order-from [] before (operand ∷ operands) many = absurd cc
in-order-from (arg ∷ args) before [] many = absurd cc
in-order-from {B = B} (arg ∷ args) before (operand ∷ operands) many =
    picked-more (length before) (places_from (suc (length before)) args) (before ++ operand ∷ operands) operand operands (slice_get-middle before operand operands)
    (subst (λ all. picked (places_from (suc (length before)) args) all ≡ Some operands) (append_assoc before (operand ∷ []) operands)
    (subst (λ n. picked (places_from n args) ((before ++ operand ∷ []) ++ operands) ≡ Some operands) longer
    (in-order-from args (before ++ operand ∷ []) operands (let rest : length operands ≡ length args = cc in rest))))
  where
    longer : length (before ++ operand ∷ []) ≡ suc (length before)
    longer = omega (arith, length-append before (operand ∷ []))

    slice_get-middle : (first : List B) (x : B) (xs : List B) → slice_get (first ++ x ∷ xs) (length first) ≡ Some x
    slice_get-middle [] x xs = refl
    slice_get-middle (y ∷ ys) x xs = slice_get-middle ys x xs

pub are-in-order : (fields : List FieldRow) (args : List ExprId) (places : List ℕ) (operands : List Operand) → places_in_order fields args ≡ Some places → length operands ≡ length (expr_numbers args) → picked places operands ≡ Some operands
are-in-order fields args places operands is many = by_test (length fields == length args) is
  where
    many-args : length operands ≡ length args
    many-args = many ∙ length-map args (λ (id : ExprId). id.0)

    by_test : (test : Bool) → if test then Some (places_from 0 args) else None ≡ Some places → picked places operands ≡ Some operands
    by_test true same = let are : places_from 0 args ≡ places = cc in subst (λ ps. picked ps operands ≡ Some operands) are (in-order-from args [] operands many-args)
    by_test false same = absurd cc
