-- Locals that are marked as in use in a scope, each by a `StorageLive`.
use Rattle.std.proofs.Common.{◌≡◌, ℕ, ◌<◌, [], ◌∷◌, ◌++◌, length, Option, Some, None, Ok, refl, sym, ap, ◌∙◌, subst, arith}
use Rattle.std.specs.Prelude.{option_map}
use Rattle.types.specs.declared.ty.Ty.{Ty}
use Rattle.mir.specs.declared.ids.LocalId.{LocalId}
use Rattle.mir.specs.declared.span.MirSpan.{MirSpan}
use Rattle.mir.specs.declared.statement.Statement.{Statement}
use Rattle.mir.specs.declared.statement.StatementKind.TheVariants.{StorageLive}
use Rattle.mir.specs.Memory.{Memory}
use Rattle.mir.specs.Run.{Frame, after_statement}
use Rattle.source_meaning.specs.Source.{Source, Cell, cell_type, binding_type}
use Rattle.mir_lower.specs.Does.{here}
use Rattle.mir_graph.specs.Graph.{Shape, binding_local, with_statement, with_mark, local_of}
use Rattle.mir_lower.specs.Growth.{Grows, Spares, IsStored, IsSound, IsOpen}
use Rattle.mir_lower.specs.Lowered.{IsGiven}
use Rattle.mir_lower.specs.Runs.{Point, Comes}
use Rattle.mir_lower.proofs.Given.{Which, cell_for, with_local, given-local, with_local-grows, with_local-spares, with_local-open, with_local-here, with_local-sound}
use Rattle.mir_lower.proofs.Growing.{grows-trans, with_statement-grows, with_scope-grows}
use Rattle.mir_lower.proofs.Leaving.{here-scope}
use Rattle.mir_lower.proofs.Reaching.{keeps-refl}
use Rattle.mir_lower.proofs.Running.{comes-statement}
use Rattle.mir_lower.proofs.Sound.{with_statement-sound, with_statement-open, with_statement-scope, with_scope-sound, with_scope-open}
use Rattle.mir_lower.proofs.Sparing.{spares-trans, with_statement-spares, with_scope-spares}
use Rattle.mir_lower.proofs.Steps.{local_of-grows}

-- a cell was marked in the innermost open scope, and nothing else was done
pub record IsMarked (source : Source) (old new : Shape) (c : Cell) (local : ℕ) : Type 0 where
  pub grows : Grows old new
  pub spares : Spares old new
  pub sound : IsSound source new
  pub «open» : IsOpen new
  pub same_here : here new ≡ here old
  pub scope : new.scope ≡ old.scope ++ c ∷ []
  pub found : local_of new c ≡ Some local

pub marks-cell : (source : Source) (s : Shape) (c : Cell) (local : ℕ) → IsSound source s → IsOpen s → local_of s c ≡ Some local → IsMarked source s (with_mark c s) c local
marks-cell source s c local sound opened found =
    record {
      grows = with_scope-grows (s.scope ++ c ∷ []) s;
      spares = with_scope-spares (s.scope ++ c ∷ []) s;
      sound = with_scope-sound source (s.scope ++ c ∷ []) s sound;
      «open» = with_scope-open (s.scope ++ c ∷ []) s opened;
      same_here = here-scope s (s.scope ++ c ∷ []);
      scope = refl;
      found = local_of-grows s (with_mark c s) (with_scope-grows (s.scope ++ c ∷ []) s) c local found;
    }

-- the local that an expression has for its value, its `!` or its index, or is given
module _ (which : Which) (source : Source) (s : Shape) (e : ℕ) (ty : Ty) (sound : IsSound source s) (opened : IsOpen s) (within : e < length source.body.exprs) (stored : IsStored source (cell_for which e)) (has : cell_type source (cell_for which e) ≡ Some ty) where
  abbrev cell : Cell
  cell = cell_for which e

  marks-new : local_of s cell ≡ None → IsMarked source s (with_mark cell (with_local which e ty s)) cell (length s.locals)
  marks-new none =
      let new : Shape = with_local which e ty s in
      let inside : e < length s.temps = (let n = sound.nodes in omega arith) in
      let next = marks-cell source new cell (length s.locals) (with_local-sound which e ty s source inside has stored none sound) (with_local-open which e ty s opened) (given-local which e ty s inside) in
      record {
        grows = grows-trans s new (with_mark cell new) (with_local-grows which e ty s none) next.grows;
        spares = spares-trans s new (with_mark cell new) (with_local-spares which e ty s) next.spares;
        sound = next.sound;
        «open» = next.«open»;
        same_here = next.same_here ∙ with_local-here which e ty s;
        scope = next.scope;
        found = next.found;
      }

  pub marks-local : (new : Shape) (local : ℕ) → ((l : ℕ) → local_of s cell ≡ Some l → (local ≡ l) × (new ≡ with_mark cell s)) → (local_of s cell ≡ None → (local ≡ length s.locals) × (new ≡ with_mark cell (with_local which e ty s))) → IsMarked source s new cell local
  marks-local new local old fresh = by-local (local_of s cell) refl where
    by-local : (t : Option ℕ) → local_of s cell ≡ t → IsMarked source s new cell local
    by-local (Some l) found =
        let facts = old l found in
        subst (λ (n : Shape). IsMarked source s n cell local) (sym facts.1) (marks-cell source s cell local sound opened (found ∙ ap Some (sym facts.0)))
    by-local None none =
        let facts = fresh none in
        subst (λ (n : Shape). IsMarked source s n cell local) (sym facts.1) (subst (λ (l : ℕ). IsMarked source s (with_mark cell (with_local which e ty s)) cell l) (sym facts.0) (marks-new none))

live-does-nothing : (frame : Frame) (memory : Memory) (local : LocalId) → after_statement frame memory (StorageLive local) ≡ Ok memory
unfolding after_statement
live-does-nothing frame memory local = refl

-- a cell that was marked, and whose storage begins
pub given-marked : (source : Source) (s0 s1 s2 : Shape) (c : Cell) (local : LocalId) (span : MirSpan) → IsMarked source s0 s1 c local.0 → s2 ≡ with_statement (record { kind = StorageLive local; span = span }) s1 → IsGiven source s0 s2 c local.0
given-marked source s0 s1 s2 c local span marked same =
    let live : Statement = record { kind = StorageLive local; span = span } in
    let grown : Grows s1 (with_statement live s1) = with_statement-grows live s1 marked.«open» in
    subst (λ (n : Shape). IsGiven source s0 n c local.0) (sym same)
    (record {
      keeps = record {
        grows = grows-trans s0 s1 (with_statement live s1) marked.grows grown;
        spares = spares-trans s0 s1 (with_statement live s1) marked.spares (with_statement-spares live s1 marked.«open»);
        sound = with_statement-sound source live s1 marked.«open» marked.sound;
        «open» = with_statement-open live s1 marked.«open»;
        scope = with_statement-scope live s1 marked.«open» ∙ marked.scope;
      };
      found = local_of-grows s1 (with_statement live s1) grown c local.0 marked.found;
      comes = λ whole frame grows is memory.
          subst (λ (p : Point). Comes frame 0 0 p memory (here (with_statement live s1)) memory) marked.same_here
          (comes-statement live s1 whole frame memory marked.«open» grows is memory (live-does-nothing frame memory local) (keeps-refl frame memory));
    })

-- where a binding has no local, the body has no such binding, or a closure owns it
pub lacks-binding : (source : Source) (s : Shape) (b : ℕ) (found : Option LocalId) → IsSound source s → option_map (λ (l : LocalId). l.0) found ≡ binding_local s b → found ≡ None → binding_type source b ≡ None
lacks-binding source s b found sound same none = by-type (binding_type source b) refl where
  by-type : (ty : Option Ty) → binding_type source b ≡ ty → binding_type source b ≡ None
  by-type None is = is
  by-type (Some ty) is =
      let missing : binding_local s b ≡ None = sym same ∙ ap (option_map (λ (l : LocalId). l.0)) none in
      let there = (sound.bound b ty is).1 in
      absurd cc
