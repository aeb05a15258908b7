-- An expression that is evaluated into a cell, by what it does itself: without an adjustment it goes there, and with `NeverToAny`
-- into the cell of its `!`.
use Rattle.std.proofs.Common.{◌≡◌, ℕ, zero, suc, Bool, true, false, cond, List, [], ◌∷◌, ◌++◌, refl, sym, ap, ◌∙◌, subst, append_assoc, append-nil}
use Rattle.mir.specs.Memory.{Memory}
use Rattle.mir.specs.Run.{Frame}
use Rattle.source_meaning.specs.Around.{Around, marking}
use Rattle.source_meaning.specs.Ends.{End}
use Rattle.source_meaning.specs.Events.{marked_itself}
use Rattle.source_meaning.specs.Meaning.{level_at}
use Rattle.source_meaning.specs.Source.{Source, Cell, Never, Path, Store, diverges, never_marks, own_path, own_type, node_type}
use Rattle.source_meaning.specs.Valid.{IsLaidOut}
use Rattle.source_meaning.proofs.Marks.{itself_marks}
use Rattle.source_meaning.proofs.Never.{undiverted-type, never-cell}
use Rattle.mir_lower.specs.Does.{FrontAll, here, IsFrameOf, Reaches, Nothing, Does, DoesOwn}
use Rattle.mir_graph.specs.Graph.{Shape, OpenTarget}
use Rattle.mir_lower.specs.Growth.{Grows, IsReady}
use Rattle.mir_lower.specs.Lowered.{Keeps, IsGiven, LowersInto, LowersOwn}
use Rattle.mir_lower.specs.Runs.{Comes}
use Rattle.mir_lower.proofs.Growing.{grows-trans}
use Rattle.mir_lower.proofs.Reaching.{comes-refl}
use Rattle.mir_lower.proofs.Sparing.{spares-trans}
use Rattle.mir_lower.proofs.Steps.{reaches-from}

-- an expression that is evaluated into a path is itself evaluated into its own path, behind the mark of its `!`
into-own : (source : Source) (fuel : ℕ) (around : Around) (e : ℕ) (path : Path) (store : Store) →
    (level_at source fuel around).into e path store ≡ (level_at source fuel (marking (never_marks source e) around)).own e (own_path source e path) store
unfolding level_at
into-own source zero around e path store = refl
into-own source (suc fuel) around e path store = refl

-- where an expression itself goes, by whether it is adjusted
abbrev path-by : Cell → Cell → Bool → Path
path-by never c test = cond test (record { cell = never }) (record { cell = c })

no-never-marks : (source : Source) (e : ℕ) → diverges source e ≡ false → never_marks source e ≡ []
no-never-marks source e is = ap (λ (test : Bool). cond test (Never e ∷ []) []) is

one-never-mark : (source : Source) (e : ℕ) → diverges source e ≡ true → never_marks source e ≡ Never e ∷ []
one-never-mark source e is = ap (λ (test : Bool). cond test (Never e ∷ []) []) is

-- what an expression does itself it does where it is evaluated into a cell
does-into : (source : Source) (s0 s1 s2 : Shape) (e : ℕ) (c own : Cell) → own_path source e (record { cell = c }) ≡ record { cell = own } → s1.scope ≡ s0.scope ++ never_marks source e → s1.targets ≡ s0.targets →
    ((whole : Shape) (frame : Frame) → Grows s1 whole → IsFrameOf whole frame → (memory : Memory) → Comes frame 0 0 (here s0) memory (here s1) memory) → Grows s1 s2 → DoesOwn source s1 s2 e own → Does source s0 s2 e c
does-into source s0 s1 s2 e c own path marks targets comes grown does =
    record {
      reaches = λ whole frame grows sound is lands around stands fuel serves store memory holds.
          let behind : Around = marking (never_marks source e) around in
          let end : End (Unit {0}) = (level_at source fuel behind).own e (record { cell = own }) store in
          let same : (level_at source fuel around).into e (record { cell = c }) store ≡ end =
          into-own source fuel around e (record { cell = c }) store ∙ ap (λ (p : Path). (level_at source fuel behind).own e p store) path in
          subst (Reaches source whole lands frame (here s0) (here s2) memory (Nothing whole frame)) (sym same)
          (reaches-from source whole lands frame (here s0) (here s1) (here s2) memory (Nothing whole frame) (comes whole frame (grows-trans s1 s2 whole grown grows) is memory) end
          (does.reaches whole frame grows sound is lands behind
          (record {
            marks = ap (λ (scope : List Cell). scope ++ never_marks source e) stands.marks ∙ sym marks;
            result = stands.result;
            returns = stands.returns;
            targets = subst (λ (open_targets : List OpenTarget). FrontAll whole lands open_targets around.targets) (sym targets) stands.targets;
          })
          fuel serves store memory holds));
    }

-- without an adjustment
pub lowers-undiverted : (source : Source) (s0 s1 : Shape) (e : ℕ) (c : Cell) → IsReady source s0 e → diverges source e ≡ false → LowersOwn source s0 s1 e c → LowersInto source s0 s1 e c
lowers-undiverted source s0 s1 e c ready is own =
    let none = no-never-marks source e is in
    let same : node_type source e ≡ own_type source e = undiverted-type source e is in
    record {
      keeps = subst (λ (m : List Cell). Keeps source s0 s1 m) (sym (itself_marks source ready.checked e ready.within ∙ ap (λ (m : List Cell). m ++ marked_itself source e) none)) own.keeps;
      does = does-into source s0 s0 s1 e c c (ap (path-by (Never e) c) is) (sym (ap (λ (m : List Cell). s0.scope ++ m) none ∙ append-nil s0.scope)) refl
          (λ whole frame grows frame-is memory. comes-refl frame (here s0) memory) own.keeps.grows own.does;
      laid = λ laid. own.laid (record { of_itself = subst (IsLaidOut source) same laid; of_value = laid });
    }

-- with `NeverToAny`
pub lowers-diverted : (source : Source) (s0 s1 s2 : Shape) (e local : ℕ) (c : Cell) → IsReady source s0 e → diverges source e ≡ true → IsGiven source s0 s1 (Never e) local → LowersOwn source s1 s2 e (Never e) → LowersInto source s0 s2 e c
lowers-diverted source s0 s1 s2 e local c ready is given own =
    let one = one-never-mark source e is in
    record {
      keeps = record {
        grows = grows-trans s0 s1 s2 given.keeps.grows own.keeps.grows;
        spares = spares-trans s0 s1 s2 given.keeps.spares own.keeps.spares;
        sound = own.keeps.sound;
        «open» = own.keeps.«open»;
        scope =
            own.keeps.scope ∙ ap (λ scope. scope ++ marked_itself source e) given.keeps.scope ∙ append_assoc s0.scope (Never e ∷ []) (marked_itself source e)
            ∙ ap (λ m. s0.scope ++ m) (sym (itself_marks source ready.checked e ready.within ∙ ap (λ (m : List Cell). m ++ marked_itself source e) one));
      };
      does = does-into source s0 s1 s2 e c (Never e) (ap (path-by (Never e) c) is) (given.keeps.scope ∙ ap (λ (m : List Cell). s0.scope ++ m) (sym one)) given.keeps.spares.targets
          given.comes own.keeps.grows own.does;
      laid = λ laid plain layouts.
          let there = given.keeps.sound.allotted.typed (Never e) local given.found in
          let own-laid : IsLaidOut source (own_type source e) =
          subst (IsLaidOut source) (sym there.2 ∙ never-cell source e is) (layouts local there.0 (own.keeps.grows.locals local there.0 there.1)) in
          own.laid (record { of_itself = own-laid; of_value = laid }) plain layouts;
    }
