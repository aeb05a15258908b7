-- Literals, paths, and other expressions as operands and as places.
use Rattle.std.proofs.Common.{◌≡◌, ℕ, zero, suc, false, List, [], ◌∷◌, ◌++◌, Option, Some, None, refl, sym, ap, ◌∙◌, subst, append_assoc, append-nil, inr}
use Rattle.source_meaning.specs.Core.{CoreExpr, CoreLiteral, is_literal, is_path, is_place}
use Rattle.source_meaning.specs.Core as expr
use Rattle.world.specs.declared.infer.ValueNs.{ValueNs}
use Rattle.mir.specs.declared.operand.OperandKind.{OperandKind}
use Rattle.mir.specs.declared.operand.OperandKind.TheVariants.{Copy}
use Rattle.mir.specs.declared.ids.LocalId.{LocalId}
use Rattle.mir.specs.declared.operand.Place.{Place as GraphPlace}
use Rattle.mir.specs.Memory.{Memory, number_held}
use Rattle.mir.specs.Run.{Frame, operand_bytes as mir_bytes, operand_out as mir_out, operand_type as mir_type}
use Rattle.source_meaning.specs.Around.{Around, marking}
use Rattle.source_meaning.specs.Ends.{no_cost, Go, Stuck, then_do}
use Rattle.source_meaning.specs.Events.{marked, marked_as_operand}
use Rattle.source_meaning.specs.Meaning.{constant_cost, level_at, literal_operand, named_place, operand_of, place_of}
use Rattle.source_meaning.specs.Source.{Source, unadjusted, Node, Binding, Place, whole as place_of_cell, Store, Literally, At}
use Rattle.source_meaning.proofs.Marks.{literal_operand_marks, operand_marks, place_marks, path_marks}
use Rattle.mir_lower.specs.Does.{Stands, here, IsFrameOf, Holds, Landings, Reaches, Nothing, LeadsTo, Fits, Does, DoesPlace}
use Rattle.mir.specs.WholePlaces.{whole_place}
use Rattle.mir_graph.specs.Graph.{Shape}
use Rattle.mir_lower.specs.Growth.{Grows, IsSound, IsOpen}
use Rattle.body_forms.specs.Literals.{IsLiteral}
use Rattle.mir_lower.specs.Lowered.{IsGiven, IsNamed, LowersInto, LowersPlace, LowersOperand, Keeps}
use Rattle.mir_lower.specs.Runs.{run_from, Comes}
use Rattle.mir_lower.proofs.Growing.{grows-refl, grows-trans}
use Rattle.mir_lower.proofs.Laid.{lays-literal, lays-name, lays-temp}
use Rattle.mir_lower.proofs.Projecting.{at-later, whole-at}
use Rattle.mir_lower.proofs.Reading.{place-fits}
use Rattle.mir_lower.proofs.Reaching.{none-entered, comes-refl, reaches-then}
use Rattle.mir_lower.proofs.Sparing.{spares-refl, spares-trans}
use Rattle.mir_lower.proofs.Steps.{reaches-from}
use Rattle.mir_lower.proofs.Standing.{marking-fits}
use Rattle.mir_lower.specs.Callees.{Serves}
use Rattle.mir_lower.proofs.Serving.{serves-less}

-- a literal's operand
pub literal-fits : (source : Source) (whole : Shape) (frame : Frame) (e : ℕ) (literal : CoreLiteral) (operand : OperandKind) (is : IsLiteral source e literal operand) → Fits source operand whole frame (Literally is.is_constant.ty is.bytes)
unfolding mir_bytes mir_type mir_out
literal-fits source whole frame e literal operand is =
    record {
      bytes = λ store memory holds. ap (mir_bytes frame memory) is.is_constant.is_constant ∙ is.is_constant.bytes_are;
      out = λ store memory holds. ap (mir_out frame.program.world frame.body (number_held memory frame.cells)) is.is_constant.is_constant;
      ty = ap (mir_type frame.program.world frame.body) is.is_constant.is_constant;
    }

-- what a literal means as an operand
literal-means : (source : Source) (e : ℕ) (literal : CoreLiteral) (operand : OperandKind) (store : Store) (is : IsLiteral source e literal operand) (given : Option (List ℕ)) → given ≡ Some is.bytes → literal_operand source e store given ≡ Go (Literally is.is_constant.ty is.bytes) store (constant_cost source e)
literal-means source e literal operand store is given same =
    ap (literal_operand source e store) same ∙ ap (λ (t : Option _). elim t [ Some ty ↦ Go (Literally ty is.bytes) store (constant_cost source e) | None ↦ Stuck ]) is.is_constant.typed

literal-operand : (source : Source) (whole : Shape) (frame : Frame) (s : Shape) (e : ℕ) (literal : CoreLiteral) (operand : OperandKind) → unadjusted source e ≡ Some (expr.Literal literal) → IsLiteral source e literal operand → (lands : Landings) (around : Around) → Stands whole s lands around → (fuel : ℕ) → Serves fuel source frame.program → (store : Store) (memory : Memory) → Holds whole frame store memory → Reaches source whole lands frame (here s) (here s) memory (Fits source operand whole frame) ((level_at source fuel around).operand e store)
unfolding level_at
literal-operand source whole frame s e literal operand form is lands around stands zero serves store memory holds = inr (none-entered (run_from frame memory (here s)))
literal-operand source whole frame s e literal operand form is lands around stands (suc fuel) serves store memory holds =
    let gives : operand_of source (level_at source fuel) around e (unadjusted source e) store ≡ Go (Literally is.is_constant.ty is.bytes) store (constant_cost source e) =
    ap (λ f. operand_of source (level_at source fuel) around e f store) form ∙ literal-means source e literal operand store is _ is.has_bytes in
    subst (Reaches source whole lands frame (here s) (here s) memory (Fits source operand whole frame)) (sym gives)
    (inr (memory, comes-refl frame (here s) memory, holds, literal-fits source whole frame e literal operand is))

literal-marks : (source : Source) (e : ℕ) (literal : CoreLiteral) → unadjusted source e ≡ Some (expr.Literal literal) → marked_as_operand source e ≡ []
literal-marks source e literal form = literal_operand_marks source e (ap is_literal form)

-- a literal is an operand as it stands
pub lowers-literal-operand : (source : Source) (s : Shape) (e : ℕ) (literal : CoreLiteral) (operand : OperandKind) → IsSound source s → IsOpen s → unadjusted source e ≡ Some (expr.Literal literal) → IsLiteral source e literal operand → LowersOperand source s s e operand
lowers-literal-operand source s e literal operand sound opened form is =
    record {
      keeps = record {
        grows = grows-refl s;
        spares = spares-refl s;
        sound = sound;
        «open» = opened;
        scope = sym (ap (λ m. s.scope ++ m) (literal-marks source e literal form) ∙ append-nil s.scope);
      };
      does = record { reaches = λ whole frame grows whole-sound frame-is lands around stands fuel serves store memory holds. literal-operand source whole frame s e literal operand form is lands around stands fuel serves store memory holds };
      laid = lays-literal source s e literal operand form is;
    }

place-operand : (source : Source) (old new whole : Shape) (frame : Frame) (e : ℕ) (place : GraphPlace) → IsSound source whole → IsFrameOf whole frame → Grows new whole → DoesPlace source old new e place → is_literal (unadjusted source e) ≡ false → (lands : Landings) (around : Around) → Stands whole old lands around → (fuel : ℕ) → Serves fuel source frame.program → (store : Store) (memory : Memory) → Holds whole frame store memory → Reaches source whole lands frame (here old) (here new) memory (Fits source (Copy place) whole frame) ((level_at source fuel around).operand e store)
unfolding level_at
place-operand source old new whole frame e place sound is grows does form lands around stands zero serves store memory holds = inr (none-entered (run_from frame memory (here old)))
place-operand source old new whole frame e place sound is grows does form lands around stands (suc fuel) serves store memory holds =
    subst (Reaches source whole lands frame (here old) (here new) memory (Fits source (Copy place) whole frame))
    (sym (no-literal (unadjusted source e) form))
    (reaches-then source whole lands frame (here old) (here new) (here new) memory (LeadsTo does.at whole frame) (Fits source (Copy place) whole frame)
    ((level_at source fuel around).place e store) (λ at later. Go (At at) later no_cost)
    (does.does.reaches whole frame grows sound is lands around stands fuel (serves-less fuel source frame.program serves) store memory holds)
    (λ path after middle claims. inr (
      middle,
      comes-refl frame (here new) middle,
      claims.0,
      subst (λ (p : Place). Fits source (Copy place) whole frame (At p)) (sym claims.1) (place-fits source whole frame place does.at sound is serves.world (at-later new whole grows place does.at does.is)),
    ))) where
      no-literal : (form : Option CoreExpr) → is_literal form ≡ false → operand_of source (level_at source fuel) around e form store ≡ then_do ((level_at source fuel around).place e store) (λ at later. Go (At at) later no_cost)
      no-literal (Some (expr.Literal literal)) is = absurd cc
      no-literal _ is = refl

pub lowers-place-operand : (source : Source) (old new : Shape) (e : ℕ) (place : GraphPlace) → LowersPlace source old new e place → is_literal (unadjusted source e) ≡ false → LowersOperand source old new e (Copy place)
lowers-place-operand source old new e place lowers form =
    record {
      keeps = record {
        grows = lowers.keeps.grows;
        spares = lowers.keeps.spares;
        sound = lowers.keeps.sound;
        «open» = lowers.keeps.«open»;
        scope = lowers.keeps.scope ∙ ap (λ m. old.scope ++ m) (sym (operand_marks source e form));
      };
      does = record { reaches = λ whole frame grows sound is lands around stands fuel serves store memory holds. place-operand source old new whole frame e place sound is grows lowers.does form lands around stands fuel serves store memory holds };
      laid = λ truth. lowers.laid;
    }

-- an expression that is evaluated into a local of its own
into-place : (source : Source) (from middle new whole : Shape) (frame : Frame) (e : ℕ) → is_place (unadjusted source e) ≡ false → Does source middle new e (Node e) → Grows new whole → IsSound source whole → IsFrameOf whole frame → Keeps source from middle (Node e ∷ []) → ((memory : Memory) → Comes frame 0 0 (here from) memory (here middle) memory) → (lands : Landings) (around : Around) → Stands whole from lands around → (fuel : ℕ) → Serves fuel source frame.program → (store : Store) (memory : Memory) → Holds whole frame store memory → Reaches source whole lands frame (here from) (here new) memory (LeadsTo (place_of_cell (Node e)) whole frame) ((level_at source fuel around).place e store)
unfolding level_at
into-place source from middle new whole frame e form does grows sound is marks live lands around stands zero serves store memory holds = inr (none-entered (run_from frame memory (here from)))
into-place source from middle new whole frame e form does grows sound is marks live lands around stands (suc fuel) serves store memory holds =
    subst (Reaches source whole lands frame (here from) (here new) memory (LeadsTo (place_of_cell (Node e)) whole frame))
    (sym (no-path (unadjusted source e) form))
    (reaches-then source whole lands frame (here from) (here new) (here new) memory (Nothing whole frame) (LeadsTo (place_of_cell (Node e)) whole frame)
    ((level_at source fuel (marking (Node e ∷ []) around)).into e (record { cell = Node e }) store) (λ _ later. Go (place_of_cell (Node e)) later no_cost)
    (reaches-from source whole lands frame (here from) (here middle) (here new) memory (Nothing whole frame) (live memory) ((level_at source fuel (marking (Node e ∷ []) around)).into e (record { cell = Node e }) store) (does.reaches whole frame grows sound is lands (marking (Node e ∷ []) around) (marking-fits marks around stands) fuel (serves-less fuel source frame.program serves) store memory holds))
    (λ value after later claims. inr (later, comes-refl frame (here new) later, claims.0, refl))) where
      no-path : (form : Option CoreExpr) → is_place form ≡ false → place_of source (level_at source fuel) around e form store ≡ then_do ((level_at source fuel (marking (Node e ∷ []) around)).into e (record { cell = Node e }) store) (λ _ later. Go (place_of_cell (Node e)) later no_cost)
      no-path (Some (expr.Path name)) is = absurd cc
      no-path (Some (expr.Field base field)) is = absurd cc
      no-path _ is = refl

-- an expression that is no place goes into a local of its own
pub lowers-temp : (source : Source) (s0 s1 s2 : Shape) (e : ℕ) (local : LocalId) → is_place (unadjusted source e) ≡ false → IsGiven source s0 s1 (Node e) local.0 → LowersInto source s1 s2 e (Node e) → LowersPlace source s0 s2 e (whole_place local)
lowers-temp source s0 s1 s2 e local form given into =
    record {
      keeps = record {
        grows = grows-trans s0 s1 s2 given.keeps.grows into.keeps.grows;
        spares = spares-trans s0 s1 s2 given.keeps.spares into.keeps.spares;
        sound = into.keeps.sound;
        «open» = into.keeps.«open»;
        scope =
            into.keeps.scope ∙ ap (λ scope. scope ++ marked source e) given.keeps.scope ∙ append_assoc s0.scope (Node e ∷ []) (marked source e)
            ∙ ap (λ m. s0.scope ++ m) (sym (place_marks source e form));
      };
      does = record {
        at = place_of_cell (Node e);
        is = whole-at s2 local (Node e) (into.keeps.grows.temps e local.0 given.found);
        does = record {
          reaches = λ whole frame grows sound is lands around stands fuel serves store memory holds.
              into-place source s0 s1 s2 whole frame e form into.does grows sound is given.keeps
              (λ m. given.comes whole frame (grows-trans s1 s2 whole into.keeps.grows grows) is m) lands around stands fuel serves store memory holds;
        };
      };
      laid = lays-temp source s1 s2 e local.0 given.keeps.sound given.found into;
    }

-- a path is the place that it names
name-place : (source : Source) (whole : Shape) (frame : Frame) (s : Shape) (e local : ℕ) (name : _) (named : IsNamed source s e local) → unadjusted source e ≡ Some (expr.Path name) → (lands : Landings) (around : Around) → Stands whole s lands around → (fuel : ℕ) → Serves fuel source frame.program → (store : Store) (memory : Memory) → Holds whole frame store memory → Reaches source whole lands frame (here s) (here s) memory (LeadsTo (place_of_cell (Binding named.binding.0)) whole frame) ((level_at source fuel around).place e store)
unfolding level_at
name-place source whole frame s e local name named form lands around stands zero serves store memory holds = inr (none-entered (run_from frame memory (here s)))
name-place source whole frame s e local name named form lands around stands (suc fuel) serves store memory holds =
    let gives : place_of source (level_at source fuel) around e (unadjusted source e) store ≡ Go (place_of_cell (Binding named.binding.0)) store no_cost =
    ap (λ f. place_of source (level_at source fuel) around e f store) form ∙ ap (λ (n : Option ValueNs). named_place n store) named.named in
    subst (Reaches source whole lands frame (here s) (here s) memory (LeadsTo (place_of_cell (Binding named.binding.0)) whole frame)) (sym gives)
    (inr (memory, comes-refl frame (here s) memory, holds, refl))

pub lowers-name : (source : Source) (s : Shape) (e : ℕ) (local : LocalId) (name : _) → IsSound source s → IsOpen s → unadjusted source e ≡ Some (expr.Path name) → IsNamed source s e local.0 → LowersPlace source s s e (whole_place local)
lowers-name source s e local name sound opened form named =
    record {
      keeps = record {
        grows = grows-refl s;
        spares = spares-refl s;
        sound = sound;
        «open» = opened;
        scope = sym (ap (λ m. s.scope ++ m) (path_marks source e (ap is_path form)) ∙ append-nil s.scope);
      };
      does = record {
        at = place_of_cell (Binding named.binding.0);
        is = whole-at s local (Binding named.binding.0) named.found;
        does = record { reaches = λ whole frame grows whole-sound frame-is lands around stands fuel serves store memory holds. name-place source whole frame s e local.0 name named form lands around stands fuel serves store memory holds };
      };
      laid = lays-name source s e local.0 name sound form named;
    }
