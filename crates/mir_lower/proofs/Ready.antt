-- What can be lowered into a graph that grew: an expression, its parts, and what stands around them.
use Rattle.std.proofs.Common.{◌≡◌, ℕ, ◌<◌, List, [], ◌∷◌, map, Contains, Option, sym, ap, ◌∙◌, subst, arith}
use Rattle.std.specs.Prelude.{All}
use Rattle.std.proofs.lemmas.List.Elements.{All-nil, All-cons, All-head, All-tail}
use Rattle.types.specs.declared.ids.ExprId.{ExprId}
use Rattle.types.specs.declared.ids.LabelId.{LabelId}
use Rattle.source_meaning.specs.Around.{Opened}
use Rattle.source_meaning.specs.Source.{Source, node, root}
use Rattle.source_meaning.specs.Steps.{parts_of}
use Rattle.source_meaning.specs.Valid.{itself, part, EvaluatesIn, itself_in, part_in, opened_in}
use Rattle.source_meaning.proofs.Core.{part_is_below}
use Rattle.source_meaning.proofs.Depth.{evaluates_then, evaluated_is_no_later}
use Rattle.mir_graph.specs.Graph.{Shape, OpenTarget, opened_of, target_of_blocks}
use Rattle.mir_graph.specs.declared.graph.LoopBlocks.{LoopBlocks}
use Rattle.mir_lower.specs.Growth.{Grows, IsSound, IsOpen, IsPlaced, IsInside, IsAround, IsReady, ArePartsReady, IsReadyPart}
use Rattle.mir_lower.specs.Jumps.{IsEntered}
use Rattle.mir_lower.proofs.Growing.{grows-refl}
use Rattle.mir_lower.proofs.Steps.{placed-later}

-- an expression that is neither a loop nor a labelled block has the same around its parts
abbrev pub OpensNone : Source → ℕ → Type 0
OpensNone source e = (outer : List Opened) → opened_in e (node source e) outer ≡ outer

-- the loops and labelled blocks around an expression of a lower number, in a graph that grew
inside-grown : (old new : Shape) (e child : ℕ) → Grows old new → (targets : List OpenTarget) → child < e → All (IsInside old e) targets → All (IsInside new child) targets
inside-grown old new e child grows [] below all = All-nil (IsInside new child)
inside-grown old new e child grows (target ∷ outer) below all =
    let first = All-head (IsInside old e) target outer all in
    All-cons (IsInside new child) target outer (record { above = (let over = first.above in omega arith); placed = placed-later old new grows target.local first.placed })
    (inside-grown old new e child grows outer below (All-tail (IsInside old e) target outer all))

same-inside : (old new : Shape) (e : ℕ) → Grows old new → (targets : List OpenTarget) → All (IsInside old e) targets → All (IsInside new e) targets
same-inside old new e grows [] all = All-nil (IsInside new e)
same-inside old new e grows (target ∷ outer) all =
    let first = All-head (IsInside old e) target outer all in
    All-cons (IsInside new e) target outer (record { above = first.above; placed = placed-later old new grows target.local first.placed })
    (same-inside old new e grows outer (All-tail (IsInside old e) target outer all))

-- one step more of what is evaluated
pub evaluates-in-then : {source : Source} {outer inner : List Opened} {e f child : ℕ} → EvaluatesIn source outer e inner f → Contains (parts_of (node source f)) child → EvaluatesIn source outer e (opened_in f (node source f) inner) child
evaluates-in-then itself_in is = part_in is itself_in
evaluates-in-then (part_in within rest) is = part_in within (evaluates-in-then rest is)

-- the parts of an expression that opens nothing can be lowered where it can
pub parts-ready : (source : Source) (s : Shape) (e : ℕ) → OpensNone source e → IsReady source s e → ArePartsReady source s e
parts-ready source s e same ready =
    record {
      checked = ready.checked;
      sound = ready.sound;
      «open» = ready.«open»;
      within = ready.within;
      reached = ready.reached;
      around = record {
        outer = opened_of s;
        stands = ready.around.stands;
        opens = same (opened_of s);
        inside = λ child below. inside-grown s s e child (grows-refl s) s.targets below ready.around.inside;
      };
    }

-- they can in a graph that grew, in which the same loops and labelled blocks are open
pub parts-ready-in : (source : Source) (s new : Shape) (e : ℕ) → ArePartsReady source s e → new.targets ≡ s.targets → Grows s new → IsSound source new → IsOpen new → ArePartsReady source new e
parts-ready-in source s new e ready targets grows sound opened =
    record {
      checked = ready.checked;
      sound = sound;
      «open» = opened;
      within = ready.within;
      reached = ready.reached;
      around = record {
        outer = ready.around.outer;
        stands = ready.around.stands;
        opens = ready.around.opens ∙ ap (map (λ target. target.opened)) (sym targets);
        inside = λ child below. subst (λ (open_targets : List OpenTarget). All (IsInside new child) open_targets) (sym targets) (same-inside s new child grows s.targets (ready.around.inside child below));
      };
    }

-- the same expression in such a graph
pub ready-in : (source : Source) (s new : Shape) (e : ℕ) → IsReady source s e → new.targets ≡ s.targets → Grows s new → IsSound source new → IsOpen new → IsReady source new e
ready-in source s new e ready targets grows sound opened =
    record {
      checked = ready.checked;
      sound = sound;
      «open» = opened;
      within = ready.within;
      reached = ready.reached;
      around = record {
        stands = subst (λ (outer : List Opened). EvaluatesIn source [] (root source) outer e) (ap (map (λ target. target.opened)) (sym targets)) ready.around.stands;
        inside = subst (λ (open_targets : List OpenTarget). All (IsInside new e) open_targets) (sym targets) (same-inside s new e grows s.targets ready.around.inside);
      };
    }

-- a part can be lowered where the parts can
pub part-ready : (source : Source) (s : Shape) (e child : ℕ) → ArePartsReady source s e → Contains (parts_of (node source e)) child → IsReadyPart source s child
part-ready source s e child ready is =
    let less = part_is_below source ready.checked e child is in
    record {
      ready = record {
        checked = ready.checked;
        sound = ready.sound;
        «open» = ready.«open»;
        within = let w = ready.within in omega arith;
        reached = evaluates_then source ready.reached (part is itself);
        around = record {
          stands = subst (λ (outer : List Opened). EvaluatesIn source [] (root source) outer child) ready.around.opens (evaluates-in-then ready.around.stands is);
          inside = ready.around.inside child less;
        };
      };
      below = let upto = evaluated_is_no_later source ready.checked ready.reached in omega arith;
    }

-- a part in a graph that grew
pub ready-part : (source : Source) (s new : Shape) (e child : ℕ) → ArePartsReady source s e → Contains (parts_of (node source e)) child → new.targets ≡ s.targets → Grows s new → IsSound source new → IsOpen new → IsReadyPart source new child
ready-part source s new e child ready is targets grows sound opened = part-ready source new e child (parts-ready-in source s new e ready targets grows sound opened) is

-- what stands around the parts of a loop or a labelled block that was entered
pub parts-entered : (source : Source) (s0 s1 : Shape) (e : ℕ) (label : Option LabelId) (target : OpenTarget) → IsReady source s0 e → IsEntered source s0 s1 target → target.opened ≡ record { node = e; label = label } →
    ((outer : List Opened) → opened_in e (node source e) outer ≡ record { node = e; label = label } ∷ outer) → IsPlaced s0 target.local → ArePartsReady source s1 e
parts-entered source s0 s1 e label target ready entered opened opens placed =
    let own-node : target.opened.node ≡ e = ap (λ o. o.node) opened in
    record {
      checked = ready.checked;
      sound = entered.sound;
      «open» = entered.«open»;
      within = ready.within;
      reached = ready.reached;
      around = record {
        outer = opened_of s0;
        stands = ready.around.stands;
        opens =
            opens (opened_of s0) ∙ ap (λ (own : Opened). own ∷ opened_of s0) (sym opened)
            ∙ ap (map (λ target. target.opened)) (sym entered.targets);
        inside = λ child below. subst (λ (open_targets : List OpenTarget). All (IsInside s1 child) open_targets) (sym entered.targets)
            (All-cons (IsInside s1 child) target s0.targets (record { above = omega arith; placed = placed-later s0 s1 entered.grows target.local placed }) (inside-grown s0 s1 e child entered.grows s0.targets below ready.around.inside));
      };
    }

-- which loop or labelled block was entered
pub opened-is : (blocks : LoopBlocks) (e : ExprId) (label : Option LabelId) → blocks.node ≡ e → blocks.label ≡ label → (target_of_blocks blocks).opened ≡ record { node = e.0; label = label }
opened-is blocks e label node-is label-is = ap (λ (n : ExprId). record { node = n.0; label = blocks.label }) node-is ∙ ap (λ (l : Option LabelId). record { node = e.0; label = l }) label-is

-- around the root of a body nothing is open
pub around-first : (source : Source) (s : Shape) → s.targets ≡ [] → IsAround source s (root source)
around-first source s none =
    record {
      stands = subst (λ (outer : List Opened). EvaluatesIn source [] (root source) outer (root source)) (sym (ap (map (λ target. target.opened)) none)) itself_in;
      inside = subst (λ (open_targets : List OpenTarget). All (IsInside s (root source)) open_targets) (sym none) (All-nil (IsInside s (root source)));
    }
