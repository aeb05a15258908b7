-- Costs add up in any grouping, and so do evaluations one after another.
use Rattle.std.proofs.Common.{◌≡◌, ℕ, Bool, true, false, ◌&&◌, refl, ap, ap₂, ◌∙◌, arith}
use Rattle.source_meaning.specs.Ends.{Cost, greater, no_cost, plus, End, Go, Jumps, Faults, Stuck, More, after, then_do}
use Rattle.source_meaning.specs.Laws.{CostsAdd}
use Rattle.source_meaning.specs.Source.{Store}

greater-assoc : (a b c : ℕ) → greater (greater a b) c ≡ greater a (greater b c)
greater-assoc a b c = omega arith

and-assoc : (a b c : Bool) → (a && b) && c ≡ a && (b && c)
and-assoc true b c = refl
and-assoc false b c = refl

and-true : (a : Bool) → a && true ≡ a
and-true true = refl
and-true false = refl

same_cost : (one other : Cost) → one.turns ≡ other.turns → one.bytes ≡ other.bytes → one.nesting ≡ other.nesting → one.defined ≡ other.defined → one ≡ other
same_cost one other turns bytes nesting defined =
    ap₂ (λ (t : ℕ) (b : ℕ). record { turns = t; bytes = b; nesting = one.nesting; defined = one.defined }) turns bytes
    ∙ ap₂ (λ (n : ℕ) (d : Bool). record { turns = other.turns; bytes = other.bytes; nesting = n; defined = d }) nesting defined

pub plus-assoc : (first second third : Cost) → plus (plus first second) third ≡ plus first (plus second third)
unfolding plus
plus-assoc first second third =
    same_cost _ _ (omega arith) (omega arith) (greater-assoc first.nesting second.nesting third.nesting) (and-assoc first.defined second.defined third.defined)

pub plus-none : (cost : Cost) → plus no_cost cost ≡ cost
unfolding plus
plus-none cost = same_cost _ _ (omega arith) (omega arith) (omega arith) refl

pub none-plus : (cost : Cost) → plus cost no_cost ≡ cost
unfolding plus
none-plus cost = same_cost _ _ (omega arith) (omega arith) (omega arith) (and-true cost.defined)

pub costs_add : CostsAdd
costs_add = record { grouped = plus-assoc; nothing_before = plus-none; nothing_after = none-plus }

-- no cost before an end changes nothing
pub after-none : {A : Type 0} (end : End A) → after no_cost end ≡ end
unfolding after
after-none (Go value store cost) = ap (Go value store) (plus-none cost)
after-none (Jumps to store cost) = ap (Jumps to store) (plus-none cost)
after-none (Faults fault cost) = ap (Faults fault) (plus-none cost)
after-none Stuck = refl
after-none (More cost) = ap More (plus-none cost)

-- costs that stand before one another, taken together in two ways
pub after-after : {A : Type 0} (first second : Cost) (end : End A) → after (plus first second) end ≡ after first (after second end)
unfolding after
after-after first second (Go value store cost) = ap (Go value store) (plus-assoc first second cost)
after-after first second (Jumps to store cost) = ap (Jumps to store) (plus-assoc first second cost)
after-after first second (Faults fault cost) = ap (Faults fault) (plus-assoc first second cost)
after-after first second Stuck = refl
after-after first second (More cost) = ap More (plus-assoc first second cost)

pub after-then : {A B : Type 0} (cost : Cost) (end : End A) (next : A → Store → End B) → then_do (after cost end) next ≡ after cost (then_do end next)
unfolding then_do after
after-then cost (Go value store rest) next = after-after cost rest (next value store)
after-then cost (Jumps to store rest) next = refl
after-then cost (Faults fault rest) next = refl
after-then cost Stuck next = refl
after-then cost (More rest) next = refl

pub then-then : {A B C : Type 0} (end : End A) (next : A → Store → End B) (last : B → Store → End C) → then_do (then_do end next) last ≡ then_do end (λ value store. then_do (next value store) last)
unfolding then_do
then-then (Go value store cost) next last = after-then cost (next value store) last
then-then (Jumps to store cost) next last = refl
then-then (Faults fault cost) next last = refl
then-then Stuck next last = refl
then-then (More cost) next last = refl

pub then-same : {A B : Type 0} (end : End A) (next other : A → Store → End B) → ((value : A) (store : Store) → next value store ≡ other value store) → then_do end next ≡ then_do end other
unfolding then_do
then-same (Go value store cost) next other same = ap (after cost) (same value store)
then-same (Jumps to store cost) next other same = refl
then-same (Faults fault cost) next other same = refl
then-same Stuck next other same = refl
then-same (More cost) next other same = refl

-- no cost, and then another evaluation, is the other
pub then-go : {A B : Type 0} (value : A) (store : Store) (next : A → Store → End B) → then_do (Go value store no_cost) next ≡ next value store
unfolding then_do
then-go value store next = after-none (next value store)
