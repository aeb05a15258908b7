-- How the evaluation of a part of a source ends, and what it costs.
use Rattle.std.specs.Prelude.{ℕ, suc, ◌+◌, ◌-◌, ◌≤◌, Bool, true, ◌&&◌, List}
use Rattle.source_meaning.specs.Source.{Store}

-- what an evaluation takes of the limits on a run
pub record Cost : Type 0 where
  -- how many blocks are entered
  pub turns : ℕ
  -- how many bytes are taken
  pub bytes : ℕ
  -- how deep runs and the parts of values are nested, at most
  pub nesting : ℕ
  -- whether all that takes bytes has a size
  pub defined : Bool

-- the greater of two numbers
abbrev pub greater : ℕ → ℕ → ℕ
greater a b = a + (b - a)

abbrev pub no_cost : Cost
no_cost = record { turns = 0; bytes = 0; nesting = 0; defined = true }

-- blocks that are entered, and nothing else
abbrev pub turns_alone : ℕ → Cost
turns_alone turns = record { turns = turns; bytes = 0; nesting = 0; defined = true }

-- bytes that are taken, and nothing else
abbrev pub bytes_alone : ℕ → Cost
bytes_alone bytes = record { turns = 0; bytes = bytes; nesting = 0; defined = true }

-- one cost after another
unfoldable pub plus : Cost → Cost → Cost
plus first second = record {
  turns = first.turns + second.turns;
  bytes = first.bytes + second.bytes;
  nesting = greater first.nesting second.nesting;
  defined = first.defined && second.defined;
}

-- what an evaluation costs that takes one more level of nesting while it runs
abbrev pub one_level_more : Cost → Cost
one_level_more cost = record cost { nesting = suc cost.nesting }

-- where a jump leads: behind a loop or a labelled block, to a loop's next turn, or out of the body
pub data Jump : Type 0 where
  Break : (node : ℕ) → Jump
  Continue : (node : ℕ) → Jump
  Return : Jump

-- why an evaluation breaks off: a panic that says a word, undefined behavior that a text names, or a body that can't be entered, since a type
-- that it needs has no layout
pub data Fault : Type 0 where
  Panic : (word : List ℕ) → Fault
  Undefined : (text : List ℕ) → Fault
  NoLayout : Fault

-- How an evaluation ends: with a value, in a jump, in a fault, or without meaning. `More` is no end: the fuel ran out.
pub data End (A : Type 0) : Type 0 where
  Go : (value : A) (store : Store) (cost : Cost) → End A
  Jumps : (to : Jump) (store : Store) (cost : Cost) → End A
  Faults : (fault : Fault) (cost : Cost) → End A
  Stuck : End A
  More : (cost : Cost) → End A

-- an end that other costs stand before
unfoldable pub after : {A : Type 0} → Cost → End A → End A
after cost (Go value store then) = Go value store (plus cost then)
after cost (Jumps to store then) = Jumps to store (plus cost then)
after cost (Faults fault then) = Faults fault (plus cost then)
after cost Stuck = Stuck
after cost (More then) = More (plus cost then)

-- one evaluation, and then another where the first ended with a value; any other end ends both
unfoldable pub then_do : {A B : Type 0} → End A → (A → Store → End B) → End B
then_do (Go value store cost) next = after cost (next value store)
then_do (Jumps to store cost) next = Jumps to store cost
then_do (Faults fault cost) next = Faults fault cost
then_do Stuck next = Stuck
then_do (More cost) next = More cost

-- what is counted up to an end, or up to where the fuel ran out
abbrev pub cost_of : {A : Type 0} → End A → Cost
cost_of (Go value store cost) = cost
cost_of (Jumps to store cost) = cost
cost_of (Faults fault cost) = cost
cost_of Stuck = no_cost
cost_of (More cost) = cost

-- an end, and not a lack of fuel
abbrev pub IsOver : {A : Type 0} → End A → Type 0
IsOver (Go value store cost) = Unit {0}
IsOver (Jumps to store cost) = Unit {0}
IsOver (Faults fault cost) = Unit {0}
IsOver Stuck = Unit {0}
IsOver (More cost) = ⊥

-- an end, or a lack of fuel after at least `many` blocks were entered
abbrev pub GoesOn : {A : Type 0} → ℕ → End A → Type 0
GoesOn many (Go value store cost) = Unit {0}
GoesOn many (Jumps to store cost) = Unit {0}
GoesOn many (Faults fault cost) = Unit {0}
GoesOn many Stuck = Unit {0}
GoesOn many (More cost) = many ≤ cost.turns

-- no end in a jump
abbrev pub JumpsNowhere : {A : Type 0} → End A → Type 0
JumpsNowhere (Go value store cost) = Unit {0}
JumpsNowhere (Jumps to store cost) = ⊥
JumpsNowhere (Faults fault cost) = Unit {0}
JumpsNowhere Stuck = Unit {0}
JumpsNowhere (More cost) = Unit {0}
