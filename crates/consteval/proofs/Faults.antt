-- The faults that a valid definition can end in, with the words of panics and the texts of undefined behavior among them.
use Rattle.std.proofs.Common.{◌≡◌, ℕ, ◌<◌, List, Option, Some, None, refl, sym, ap, ◌∙◌, subst}
use Rattle.std.proofs.lemmas.Option.{none-some}
use Rattle.types.specs.declared.ty.Ty.{Ty}
use Rattle.world.specs.declared.limits.Limits.{Limits}
use Rattle.mir.specs.declared.errors.MirEvalError.{MirEvalError, MirEvalError-F, fold-roll-MirEvalError, map-MirEvalError, out-MirEvalError}
use Rattle.mir.specs.declared.errors.MirEvalError.TheOpen as layer
use Rattle.mir.specs.declared.errors.MirEvalError.TheViews.{out-roll-MirEvalError, roll-out-MirEvalError}
use Rattle.mir.specs.declared.errors.MirEvalError.TheVariants.{rolls-InFunction, rolls-NoMemory, rolls-LayoutError, rolls-MirLowerError, rolls-TypeIsUnsized, rolls-Panic, rolls-UndefinedBehavior, rolls-ExecutionLimitExceeded, rolls-MemoryLimitExceeded, rolls-StackOverflow}
use Rattle.mir.specs.declared.errors.MirEvalError as error
use Rattle.mir.specs.declared.errors.MirLowerError.{MirLowerError}
use Rattle.mir.specs.declared.errors.MirLowerError.TheVariants as refusal
use Rattle.mir.specs.declared.errors.TrailEntry.{TrailEntry}
use Rattle.mir_lower.specs.Stops.{LacksLayout, LacksSize, MakesSomeCall}
use Rattle.mir.specs.Errors.{from_eval_error, from_lower_error, layout_error_of}
use Rattle.source_meaning.specs.Entering.{run_cost}
use Rattle.source_meaning.specs.Source.{Source}
use Rattle.consteval.specs.Answers.{NeverRuns, NeverRunsLayer, EndsAtCall, EndsEvaluation, EndsFrame, EndsIn, EndsLayer, EndsLowering, GivesPanic, GivesUndefined, PassesBytesAtOnce, panic_layer, panic_word, undefined_layer, undefined_text}

-- a frame's fault, wrapped in it
pub framed : (source : Source) (limits : Limits) (inner : MirEvalError) (trail : List TrailEntry) → EndsFrame source limits inner → EndsEvaluation source limits (error.InFunction inner trail)
framed source limits inner trail ends =
    subst (EndsLayer source limits) (sym (ap out-MirEvalError (sym (rolls-InFunction inner trail)) ∙ out-roll-MirEvalError (layer.InFunction inner trail))) ends

-- why a frame ends at a call is how it can end, where its source makes a call
pub at-call : (source : Source) (limits : Limits) (e : MirEvalError) → MakesSomeCall source → EndsAtCall source limits e → EndsFrame source limits e
at-call source limits (error.Panic word) call ends = absurd ends
at-call source limits (error.UndefinedBehavior text) call ends = absurd ends
at-call source limits error.ExecutionLimitExceeded call ends = absurd ends
at-call source limits _ call ends = (call, ends)

-- a cell's type without a layout, or without a size
pub without-layout : (source : Source) (limits : Limits) (ty : Ty) → LacksLayout source ty → EndsEvaluation source limits (error.LayoutError (layout_error_of ty) ty)
without-layout source limits ty lacks =
    let e = layout_error_of ty in
    subst (EndsLayer source limits) (sym (ap out-MirEvalError (sym (rolls-LayoutError e ty)) ∙ out-roll-MirEvalError (layer.LayoutError e ty))) (refl, lacks)

pub without-size : (source : Source) (limits : Limits) (ty : Ty) (text : List ℕ) → LacksSize source ty → EndsEvaluation source limits (error.TypeIsUnsized ty text)
without-size source limits ty text lacks =
    subst (EndsLayer source limits) (sym (ap out-MirEvalError (sym (rolls-TypeIsUnsized ty text)) ∙ out-roll-MirEvalError (layer.TypeIsUnsized ty text))) lacks

-- a limit on nesting that the run and its value pass
pub overflowed : (source : Source) (limits : Limits) → limits.nesting < (run_cost source).nesting → EndsEvaluation source limits error.StackOverflow
overflowed source limits less =
    subst (EndsLayer source limits) (sym (ap out-MirEvalError (sym rolls-StackOverflow) ∙ out-roll-MirEvalError layer.StackOverflow)) less

-- a limit on bytes that the source's cells pass
pub overfull : (source : Source) (limits : Limits) → PassesBytesAtOnce source limits.bytes → EndsEvaluation source limits error.MemoryLimitExceeded
overfull source limits passes =
    subst (EndsLayer source limits) (sym (ap out-MirEvalError (sym rolls-MemoryLimitExceeded) ∙ out-roll-MirEvalError layer.MemoryLimitExceeded)) passes

-- refusals of a run
module _ (source : Source) (limits : Limits) where
  abbrev pub NeverRunsFor : MirEvalError → Type 0
  NeverRunsFor e = NeverRunsLayer source limits (out-MirEvalError e)

  pub never-without-layout : (ty : Ty) → LacksLayout source ty → NeverRunsFor (error.LayoutError (layout_error_of ty) ty)
  never-without-layout ty lacks =
      let e = layout_error_of ty in
      subst (NeverRunsLayer source limits) (sym (ap out-MirEvalError (sym (rolls-LayoutError e ty)) ∙ out-roll-MirEvalError (layer.LayoutError e ty))) (refl, lacks)

  pub never-without-size : (ty : Ty) (text : List ℕ) → LacksSize source ty → NeverRunsFor (error.TypeIsUnsized ty text)
  never-without-size ty text lacks =
      subst (NeverRunsLayer source limits) (sym (ap out-MirEvalError (sym (rolls-TypeIsUnsized ty text)) ∙ out-roll-MirEvalError (layer.TypeIsUnsized ty text))) lacks

  pub never-without-level : limits.nesting ≡ 0 → NeverRunsFor error.StackOverflow
  never-without-level none =
      subst (NeverRunsLayer source limits) (sym (ap out-MirEvalError (sym rolls-StackOverflow) ∙ out-roll-MirEvalError layer.StackOverflow)) none

  pub never-without-room : PassesBytesAtOnce source limits.bytes → NeverRunsFor error.MemoryLimitExceeded
  never-without-room passes =
      subst (NeverRunsLayer source limits) (sym (ap out-MirEvalError (sym rolls-MemoryLimitExceeded) ∙ out-roll-MirEvalError layer.MemoryLimitExceeded)) passes

  pub carried-never : (e : MirEvalError) → NeverRunsFor e → NeverRuns source limits (from_eval_error e)
  carried-never error.NoMemory never =
      absurd (subst (NeverRunsLayer source limits) (ap out-MirEvalError (sym rolls-NoMemory) ∙ out-roll-MirEvalError layer.NoMemory) never)
  carried-never _ never = never

  pub carried-unlowered : (e : MirLowerError) → EndsLowering source e → NeverRuns source limits (from_lower_error e)
  carried-unlowered refusal.NoMemory ends = absurd ends
  carried-unlowered _ ends = ends

-- faults and refusals, as they are carried
pub carried-fault : (source : Source) (limits : Limits) (e : MirEvalError) → EndsEvaluation source limits e → EndsIn source limits (from_eval_error e)
carried-fault source limits error.NoMemory ends = tt
carried-fault source limits _ ends = ends

pub carried-refusal : (source : Source) (limits : Limits) (e : MirLowerError) → EndsLowering source e → EndsIn source limits (from_lower_error e)
carried-refusal source limits refusal.NoMemory ends = tt
carried-refusal source limits _ ends = ends

word-panic : (word : List ℕ) → panic_word (error.Panic word) ≡ Some word
unfolding panic_word
word-panic word = ap panic_word (sym (rolls-Panic word)) ∙ fold-roll-MirEvalError (Option (List ℕ)) panic_layer (layer.Panic word)

word-undefined : (text : List ℕ) → panic_word (error.UndefinedBehavior text) ≡ None
unfolding panic_word
word-undefined text = ap panic_word (sym (rolls-UndefinedBehavior text)) ∙ fold-roll-MirEvalError (Option (List ℕ)) panic_layer (layer.UndefinedBehavior text)

word-limit : panic_word error.ExecutionLimitExceeded ≡ None
unfolding panic_word
word-limit = ap panic_word (sym rolls-ExecutionLimitExceeded) ∙ fold-roll-MirEvalError (Option (List ℕ)) panic_layer layer.ExecutionLimitExceeded

-- an error in which a frame ends at a call says none
word-at-call : (source : Source) (limits : Limits) (e : MirEvalError) → EndsAtCall source limits e → panic_word e ≡ None
unfolding panic_word
word-at-call source limits (error.LayoutError cause ty) ends = ap panic_word (sym (rolls-LayoutError cause ty)) ∙ fold-roll-MirEvalError (Option (List ℕ)) panic_layer (layer.LayoutError cause ty)
word-at-call source limits (error.TypeIsUnsized ty text) ends = ap panic_word (sym (rolls-TypeIsUnsized ty text)) ∙ fold-roll-MirEvalError (Option (List ℕ)) panic_layer (layer.TypeIsUnsized ty text)
word-at-call source limits (error.MirLowerError id cause) ends = ap panic_word (sym (rolls-MirLowerError id cause)) ∙ fold-roll-MirEvalError (Option (List ℕ)) panic_layer (layer.MirLowerError id cause)
word-at-call source limits error.MemoryLimitExceeded ends = ap panic_word (sym rolls-MemoryLimitExceeded) ∙ fold-roll-MirEvalError (Option (List ℕ)) panic_layer layer.MemoryLimitExceeded
word-at-call source limits error.StackOverflow ends = ap panic_word (sym rolls-StackOverflow) ∙ fold-roll-MirEvalError (Option (List ℕ)) panic_layer layer.StackOverflow
word-at-call source limits _ ends = absurd ends

-- a panic in which a frame ends is one that its source means
frame-panic : (source : Source) (limits : Limits) (inner : MirEvalError) (word : List ℕ) → EndsFrame source limits inner → panic_word inner ≡ Some word → GivesPanic source word
frame-panic source limits (error.Panic said) word ends says =
    let both : Some said ≡ Some word = sym (word-panic said) ∙ says in
    let same : said ≡ word = cc in
    subst (GivesPanic source) same ends
frame-panic source limits error.ExecutionLimitExceeded word ends says = absurd (none-some word (sym word-limit ∙ says))
frame-panic source limits (error.UndefinedBehavior text) word ends says = absurd (none-some word (sym (word-undefined text) ∙ says))
frame-panic source limits e word ends says = absurd (none-some word (sym (word-at-call source limits e ends.1) ∙ says))

-- the word of an error is that of its layer
word-by-layer : (e : MirEvalError) → panic_word e ≡ panic_layer (map-MirEvalError MirEvalError (Option (List ℕ)) panic_word (out-MirEvalError e))
unfolding panic_word
word-by-layer e = ap panic_word (sym (roll-out-MirEvalError e)) ∙ fold-roll-MirEvalError (Option (List ℕ)) panic_layer (out-MirEvalError e)

-- a panic in which a valid definition ends is one that its source means
pub ends-in-panic : (source : Source) (limits : Limits) (e : MirEvalError) (word : List ℕ) → EndsEvaluation source limits e → panic_word e ≡ Some word → GivesPanic source word
ends-in-panic source limits e word ends says = by (out-MirEvalError e) ends (sym (word-by-layer e) ∙ says) where
  by : (l : MirEvalError-F MirEvalError) → EndsLayer source limits l → panic_layer (map-MirEvalError MirEvalError (Option (List ℕ)) panic_word l) ≡ Some word → GivesPanic source word
  by (layer.InFunction inner trail) ends says = frame-panic source limits inner word ends says
  by layer.StackOverflow ends says = absurd (none-some word says)
  by layer.MemoryLimitExceeded ends says = absurd (none-some word says)
  by (layer.LayoutError e ty) ends says = absurd (none-some word says)
  by (layer.TypeIsUnsized ty text) ends says = absurd (none-some word says)
  by _ ends says = absurd ends

text-undefined : (text : List ℕ) → undefined_text (error.UndefinedBehavior text) ≡ Some text
unfolding undefined_text
text-undefined text = ap undefined_text (sym (rolls-UndefinedBehavior text)) ∙ fold-roll-MirEvalError (Option (List ℕ)) undefined_layer (layer.UndefinedBehavior text)

text-panic : (word : List ℕ) → undefined_text (error.Panic word) ≡ None
unfolding undefined_text
text-panic word = ap undefined_text (sym (rolls-Panic word)) ∙ fold-roll-MirEvalError (Option (List ℕ)) undefined_layer (layer.Panic word)

text-limit : undefined_text error.ExecutionLimitExceeded ≡ None
unfolding undefined_text
text-limit = ap undefined_text (sym rolls-ExecutionLimitExceeded) ∙ fold-roll-MirEvalError (Option (List ℕ)) undefined_layer layer.ExecutionLimitExceeded

-- an error in which a frame ends at a call has none
text-at-call : (source : Source) (limits : Limits) (e : MirEvalError) → EndsAtCall source limits e → undefined_text e ≡ None
unfolding undefined_text
text-at-call source limits (error.LayoutError cause ty) ends = ap undefined_text (sym (rolls-LayoutError cause ty)) ∙ fold-roll-MirEvalError (Option (List ℕ)) undefined_layer (layer.LayoutError cause ty)
text-at-call source limits (error.TypeIsUnsized ty text) ends = ap undefined_text (sym (rolls-TypeIsUnsized ty text)) ∙ fold-roll-MirEvalError (Option (List ℕ)) undefined_layer (layer.TypeIsUnsized ty text)
text-at-call source limits (error.MirLowerError id cause) ends = ap undefined_text (sym (rolls-MirLowerError id cause)) ∙ fold-roll-MirEvalError (Option (List ℕ)) undefined_layer (layer.MirLowerError id cause)
text-at-call source limits error.MemoryLimitExceeded ends = ap undefined_text (sym rolls-MemoryLimitExceeded) ∙ fold-roll-MirEvalError (Option (List ℕ)) undefined_layer layer.MemoryLimitExceeded
text-at-call source limits error.StackOverflow ends = ap undefined_text (sym rolls-StackOverflow) ∙ fold-roll-MirEvalError (Option (List ℕ)) undefined_layer layer.StackOverflow
text-at-call source limits _ ends = absurd ends

-- undefined behavior in which a frame ends is what its source means
frame-undefined : (source : Source) (limits : Limits) (inner : MirEvalError) (text : List ℕ) → EndsFrame source limits inner → undefined_text inner ≡ Some text → GivesUndefined source text
frame-undefined source limits (error.Panic word) text ends says = absurd (none-some text (sym (text-panic word) ∙ says))
frame-undefined source limits error.ExecutionLimitExceeded text ends says = absurd (none-some text (sym text-limit ∙ says))
frame-undefined source limits (error.UndefinedBehavior named) text ends says =
    let both : Some named ≡ Some text = sym (text-undefined named) ∙ says in
    let same : named ≡ text = cc in
    subst (GivesUndefined source) same ends
frame-undefined source limits e text ends says = absurd (none-some text (sym (text-at-call source limits e ends.1) ∙ says))

-- the text of an error is that of its layer
text-by-layer : (e : MirEvalError) → undefined_text e ≡ undefined_layer (map-MirEvalError MirEvalError (Option (List ℕ)) undefined_text (out-MirEvalError e))
unfolding undefined_text
text-by-layer e = ap undefined_text (sym (roll-out-MirEvalError e)) ∙ fold-roll-MirEvalError (Option (List ℕ)) undefined_layer (out-MirEvalError e)

-- undefined behavior in which a valid definition ends is what its source means
pub ends-in-undefined : (source : Source) (limits : Limits) (e : MirEvalError) (text : List ℕ) → EndsEvaluation source limits e → undefined_text e ≡ Some text → GivesUndefined source text
ends-in-undefined source limits e text ends says = by (out-MirEvalError e) ends (sym (text-by-layer e) ∙ says) where
  by : (l : MirEvalError-F MirEvalError) → EndsLayer source limits l → undefined_layer (map-MirEvalError MirEvalError (Option (List ℕ)) undefined_text l) ≡ Some text → GivesUndefined source text
  by (layer.InFunction inner trail) ends says = frame-undefined source limits inner text ends says
  by layer.StackOverflow ends says = absurd (none-some text says)
  by layer.MemoryLimitExceeded ends says = absurd (none-some text says)
  by (layer.LayoutError e ty) ends says = absurd (none-some text says)
  by (layer.TypeIsUnsized ty reason) ends says = absurd (none-some text says)
  by _ ends says = absurd ends
