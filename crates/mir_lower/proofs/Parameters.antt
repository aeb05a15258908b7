-- The parameters of a body: the local of each is marked, one after another.
use Rattle.std.proofs.Common.{◌≡◌, ℕ, zero, suc, ◌+◌, ◌<◌, ◌≤◌, ◌⊎◌, ⊎_elim, List, [], ◌∷◌, ◌++◌, length, Option, Some, None, map, take, Contains, get_or, refl, sym, ap, ◌∙◌, subst, arith, append_assoc, append-nil}
use Rattle.std.specs.Prelude.{flat_map, option_and_then, option_map, slice_get}
use Rattle.std.proofs.lemmas.List.{map-append, take_all}
use Rattle.std.proofs.lemmas.List.Elements.{Contains-append_left, Contains-append_right}
use Rattle.types.specs.declared.ids.BindingId.{BindingId}
use Rattle.types.specs.declared.ids.PatId.{PatId}
use Rattle.mir.specs.declared.errors.MirLowerError.{MirLowerError}
use Rattle.mir.specs.declared.errors.MirLowerError.TheVariants as refusal
use Rattle.mir.specs.declared.ids.LocalId.{LocalId}
use Rattle.source_meaning.specs.Calls.{names_bound, parameters, parameter_cells, self_bound}
use Rattle.source_meaning.specs.Source.{Source, Cell, Binding, bound_by, pattern}
use Rattle.mir_lower.specs.Callees.{AreLocalsOf}
use Rattle.mir_graph.specs.Graph.{Shape, binding_local, local_of, with_mark, with_scope}
use Rattle.mir_lower.specs.Growth.{IsSound}
use Rattle.mir_lower.specs.Parameters.{MarksBindings, LowersParameters}
use Rattle.mir_lower.specs.Refusals.{RefusesPattern, RefusesParameters}
use Rattle.mir_lower.proofs.InUse.{lacks-binding}
use Rattle.mir_graph.proofs.Lists.{take-next}
use Rattle.mir_lower.proofs.Sound.{with_scope-sound}

-- the locals of bindings, with one more, and where each is another table's too
locals-more : (allotted : Cell → Option ℕ) (bound : List ℕ) (locals : List LocalId) (b : ℕ) (local : LocalId) → AreLocalsOf allotted bound locals → allotted (Binding b) ≡ Some local.0 → AreLocalsOf allotted (bound ++ b ∷ []) (locals ++ local ∷ [])
locals-more allotted [] [] b local all found = (found, tt)
locals-more allotted (c ∷ bound) (other ∷ locals) b local all found = (all.0, locals-more allotted bound locals b local all.1 found)
locals-more allotted [] (other ∷ locals) b local all found = absurd all
locals-more allotted (c ∷ bound) [] b local all found = absurd all

pub locals-carried : (first second : Cell → Option ℕ) (bound : List ℕ) (locals : List LocalId) → ((b l : ℕ) → first (Binding b) ≡ Some l → second (Binding b) ≡ Some l) → AreLocalsOf first bound locals → AreLocalsOf second bound locals
locals-carried first second [] [] carries all = tt
locals-carried first second (b ∷ bound) (local ∷ locals) carries all = (carries b local.0 all.0, locals-carried first second bound locals carries all.1)
locals-carried first second [] (local ∷ locals) carries all = absurd all
locals-carried first second (b ∷ bound) [] carries all = absurd all

-- the pattern of a parameter
pub param-there : (pats : List PatId) (i : ℕ) (other : PatId) → i < length pats → slice_get pats i ≡ Some (get_or pats i other)
param-there [] i other within = absurd (omega arith)
param-there (first ∷ rest) zero other within = refl
param-there (first ∷ rest) (suc i) other within = param-there rest i other (omega arith)

-- no binding was marked, and one more
pub marks-none : (s : Shape) → MarksBindings s s [] []
marks-none s = record { marked = ap (λ (scope : List Cell). with_scope scope s) (sym (append-nil s.scope)); told = tt }

pub marks-more : (old at new : Shape) (bound : List ℕ) (locals : List LocalId) (b : ℕ) (local : LocalId) → MarksBindings old at bound locals → binding_local at b ≡ Some local.0 → new ≡ with_mark (Binding b) at → MarksBindings old new (bound ++ b ∷ []) (locals ++ local ∷ [])
unfolding binding_local
marks-more old at new bound locals b local marks found marked =
    record {
      marked = marked ∙ ap (with_mark (Binding b)) marks.marked
          ∙ ap (λ (scope : List Cell). with_scope scope old) (append_assoc old.scope (map Binding bound) (Binding b ∷ []) ∙ ap (λ (cells : List Cell). old.scope ++ cells) (sym (map-append Binding bound (b ∷ []))));
      told = locals-more (local_of old) bound locals b local marks.told (sym (ap (λ (s : Shape). binding_local s b) marks.marked) ∙ found);
    }

-- the graph can be lowered into as before
pub marked-sound : (source : Source) (old new : Shape) (bound : List ℕ) (locals : List LocalId) → IsSound source old → MarksBindings old new bound locals → IsSound source new
marked-sound source old new bound locals sound marks = subst (IsSound source) (sym marks.marked) (with_scope-sound source (old.scope ++ map Binding bound) old sound)

-- patterns were marked, behind `self`
pub record MarksNames (source : Source) (old new : Shape) (pats : List PatId) (locals : List LocalId) : Type 0 where
  pub named : List ℕ
  pub names : names_bound source pats ≡ Some named
  pub marks : MarksBindings old new (self_bound source.body.self_param ++ named) locals

pub names-none : (source : Source) (old new : Shape) (locals : List LocalId) → MarksBindings old new (self_bound source.body.self_param) locals → MarksNames source old new [] locals
unfolding names_bound
names-none source old new locals marks =
    record { named = []; names = refl; marks = subst (λ (bound : List ℕ). MarksBindings old new bound locals) (sym (append-nil (self_bound source.body.self_param))) marks }

-- the first of the names that patterns are, and the others
record FirstNamed (source : Source) (first : PatId) (rest : List PatId) (named : List ℕ) : Type 0 where
  pub id : BindingId
  pub others : List ℕ
  pub is : pattern source first.0 ≡ Some id
  pub names : names_bound source rest ≡ Some others
  pub same : named ≡ id.0 ∷ others

first-named : (source : Source) (first : PatId) (rest : List PatId) (named : List ℕ) → names_bound source (first ∷ rest) ≡ Some named → FirstNamed source first rest named
unfolding names_bound
first-named source first rest named names = by-both (pattern source first.0) (names_bound source rest) refl refl names where
  by-both : (one : Option BindingId) (other : Option (List ℕ)) → pattern source first.0 ≡ one → names_bound source rest ≡ other →
      option_and_then (λ (id : BindingId). option_map (λ others. id.0 ∷ others) other) one ≡ Some named → FirstNamed source first rest named
  by-both (Some id) (Some others) is there both = record { id = id; others = others; is = is; names = there; same = (let same : id.0 ∷ others ≡ named = cc in sym same) }
  by-both (Some id) None is there both = absurd cc
  by-both None other is there both = absurd cc

-- one pattern more
names-more : (source : Source) (pats : List PatId) (named : List ℕ) (pat : PatId) (id : BindingId) → names_bound source pats ≡ Some named → pattern source pat.0 ≡ Some id → names_bound source (pats ++ pat ∷ []) ≡ Some (named ++ id.0 ∷ [])
unfolding names_bound
names-more source [] named pat id names is =
    let none : [] ≡ named = cc in
    ap (option_and_then (λ (one : BindingId). option_map (λ others. one.0 ∷ others) (Some []))) is ∙ ap (λ (before : List ℕ). Some (before ++ id.0 ∷ [])) none
names-more source (first ∷ rest) named pat id names is =
    let one = first-named source first rest named names in
    let later = names-more source rest one.others pat id one.names is in
    ap (λ o. option_and_then (λ (b : BindingId). option_map (λ others. b.0 ∷ others) o) (pattern source first.0)) later
    ∙ ap (option_and_then (λ (b : BindingId). option_map (λ others. b.0 ∷ others) (Some (one.others ++ id.0 ∷ [])))) one.is
    ∙ ap (λ (before : List ℕ). Some (before ++ id.0 ∷ [])) (sym one.same)

pub names-next : (source : Source) (old at new : Shape) (pats : List PatId) (locals : List LocalId) (i : ℕ) (pat : PatId) (id : BindingId) (local : LocalId) → MarksNames source old at (take i pats) locals → slice_get pats i ≡ Some pat →
    pattern source pat.0 ≡ Some id → binding_local at id.0 ≡ Some local.0 → new ≡ with_mark (Binding id.0) at → MarksNames source old new (take (i + 1) pats) (locals ++ local ∷ [])
names-next source old at new pats locals i pat id local done there is found marked =
    let next : i + 1 ≡ suc i = omega arith in
    let same : take (i + 1) pats ≡ take i pats ++ pat ∷ [] = ap (λ (n : ℕ). take n pats) next ∙ take-next pats i pat there in
    record {
      named = done.named ++ id.0 ∷ [];
      names = ap (names_bound source) same ∙ names-more source (take i pats) done.named pat id done.names is;
      marks = subst (λ (bound : List ℕ). MarksBindings old new bound (locals ++ local ∷ [])) (append_assoc (self_bound source.body.self_param) done.named (id.0 ∷ []))
          (marks-more old at new (self_bound source.body.self_param ++ done.named) locals id.0 local done.marks found marked);
    }

-- the cells that names bind
self-cells : (own : Option BindingId) → map Binding (self_bound own) ≡ bound_by own
self-cells (Some id) = refl
self-cells None = refl

named-cells : (source : Source) (pats : List PatId) (named : List ℕ) → names_bound source pats ≡ Some named → map Binding named ≡ flat_map (λ (pat : PatId). bound_by (pattern source pat.0)) pats
unfolding names_bound
named-cells source [] named names = let none : [] ≡ named = cc in ap (map Binding) (sym none)
named-cells source (first ∷ rest) named names =
    let one = first-named source first rest named names in
    ap (map Binding) one.same ∙ ap (λ (cells : List Cell). Binding one.id.0 ∷ cells) (named-cells source rest one.others one.names)
    ∙ ap (λ (b : Option BindingId). bound_by b ++ flat_map (λ (pat : PatId). bound_by (pattern source pat.0)) rest) (sym one.is)

-- all were marked
pub parameters-lowered : (source : Source) (old new : Shape) (locals : List LocalId) (pats : List PatId) (i : ℕ) → pats ≡ source.body.params → length pats ≤ i → MarksNames source old new (take i pats) locals → LowersParameters source old new locals
unfolding parameters parameter_cells binding_local
parameters-lowered source old new locals pats i same all done =
    let own : List ℕ = self_bound source.body.self_param in
    let names : names_bound source source.body.params ≡ Some done.named = ap (names_bound source) (sym same ∙ sym (take_all i pats all)) ∙ done.names in
    let cells : map Binding (own ++ done.named) ≡ parameter_cells source =
    map-append Binding own done.named ∙ ap (λ (first : List Cell). first ++ map Binding done.named) (self-cells source.body.self_param)
    ∙ ap (λ (later : List Cell). bound_by source.body.self_param ++ later) (named-cells source source.body.params done.named names) in
    record {
      marked = done.marks.marked ∙ ap (λ (marked : List Cell). with_scope (old.scope ++ marked) old) cells;
      bound = own ++ done.named;
      binds = ap (option_map (λ named. own ++ named)) names;
      told = locals-carried (local_of old) (local_of new) (own ++ done.named) locals (λ b l found. ap (λ (s : Shape). binding_local s b) done.marks.marked ∙ found) done.marks.told;
    }

-- a parameter that isn't a name by value
never-named : (o : Option BindingId) → option_and_then (λ (id : BindingId). option_map (λ (others : List ℕ). id.0 ∷ others) None) o ≡ None
never-named (Some id) = refl
never-named None = refl

unnamed : (source : Source) (pats : List PatId) (i : ℕ) (pat : PatId) → slice_get pats i ≡ Some pat → pattern source pat.0 ≡ None → names_bound source pats ≡ None
unfolding names_bound
unnamed source [] i pat found none = absurd cc
unnamed source (first ∷ rest) zero pat found none =
    let same : first ≡ pat = cc in
    ap (option_and_then (λ (id : BindingId). option_map (λ others. id.0 ∷ others) (names_bound source rest))) (ap (λ (p : PatId). pattern source p.0) same ∙ none)
unnamed source (first ∷ rest) (suc i) pat found none =
    ap (λ o. option_and_then (λ (id : BindingId). option_map (λ others. id.0 ∷ others) o) (pattern source first.0)) (unnamed source rest i pat found none) ∙ never-named (pattern source first.0)

-- the cell of a parameter
cell-bound : (source : Source) (pats : List PatId) (i : ℕ) (pat : PatId) (id : BindingId) → slice_get pats i ≡ Some pat → pattern source pat.0 ≡ Some id → Contains (flat_map (λ (p : PatId). bound_by (pattern source p.0)) pats) (Binding id.0)
cell-bound source [] i pat id found is = absurd cc
cell-bound source (first ∷ rest) zero pat id found is =
    let same : first ≡ pat = cc in
    let here : bound_by (pattern source first.0) ≡ Binding id.0 ∷ [] = ap (λ (p : PatId). bound_by (pattern source p.0)) same ∙ ap bound_by is in
    Contains-append_left (bound_by (pattern source first.0)) (flat_map (λ (p : PatId). bound_by (pattern source p.0)) rest) (Binding id.0)
    (subst (λ (cells : List Cell). Contains cells (Binding id.0)) (sym here) (0, omega arith, refl))
cell-bound source (first ∷ rest) (suc i) pat id found is =
    Contains-append_right (bound_by (pattern source first.0)) (flat_map (λ (p : PatId). bound_by (pattern source p.0)) rest) (Binding id.0) (cell-bound source rest i pat id found is)

-- the refusal of one of the parameters
pub refuses-parameter : (source : Source) (i : ℕ) (pat : PatId) (error : MirLowerError) → slice_get source.body.params i ≡ Some pat → RefusesPattern source pat.0 error → RefusesParameters source error
unfolding parameters parameter_cells
refuses-parameter source i pat (refusal.NotSupported text) there refuses =
    (refuses.0, ap (option_map (λ named. self_bound source.body.self_param ++ named)) (unnamed source source.body.params i pat there refuses.1))
refuses-parameter source i pat refusal.InaccessibleLocal there refuses =
    (refuses.0, Contains-append_right (bound_by source.body.self_param) (flat_map (λ (p : PatId). bound_by (pattern source p.0)) source.body.params) (Binding refuses.0.0) (cell-bound source source.body.params i pat refuses.0 there refuses.1), refuses.2)
refuses-parameter source i pat refusal.NoMemory there refuses = tt
refuses-parameter source i pat (refusal.LayoutError l) there refuses = absurd refuses
refuses-parameter source i pat refusal.IncompleteExpr there refuses = absurd refuses
refuses-parameter source i pat (refusal.UnresolvedName name) there refuses = absurd refuses
refuses-parameter source i pat refusal.HasErrors there refuses = absurd refuses
refuses-parameter source i pat refusal.ContinueWithoutLoop there refuses = absurd refuses
refuses-parameter source i pat refusal.BreakWithoutLoop there refuses = absurd refuses
refuses-parameter source i pat refusal.UnresolvedLabel there refuses = absurd refuses
refuses-parameter source i pat (refusal.TypeError text) there refuses = absurd refuses

pub parameters-no-memory : (source : Source) (error : MirLowerError) → error ≡ refusal.NoMemory → RefusesParameters source error
parameters-no-memory source error none = subst (RefusesParameters source) (sym none) tt

-- where a binding isn't marked, the body lacks it
abbrev pub Unmarked : Shape → ℕ → MirLowerError → Type 0
Unmarked s b error = ((error ≡ refusal.InaccessibleLocal) × (binding_local s b ≡ None)) ⊎ (error ≡ refusal.NoMemory)

pub refuses-unmarked : (source : Source) (s : Shape) (pat : ℕ) (id : BindingId) (error : MirLowerError) → IsSound source s → pattern source pat ≡ Some id → Unmarked s id.0 error → RefusesPattern source pat error
refuses-unmarked source s pat id error sound is cases =
    ⊎_elim (λ lacks. subst (RefusesPattern source pat) (sym lacks.0) (id, is, lacks-binding source s id.0 None sound (sym lacks.1) refl)) (λ none. subst (RefusesPattern source pat) (sym none) tt) cases

pub refuses-self : (source : Source) (s : Shape) (id : BindingId) (error : MirLowerError) → IsSound source s → source.body.self_param ≡ Some id → Unmarked s id.0 error → RefusesParameters source error
unfolding parameter_cells
refuses-self source s id error sound is cases =
    let rest : List Cell = flat_map (λ (p : PatId). bound_by (pattern source p.0)) source.body.params in
    let within : Contains (bound_by source.body.self_param ++ rest) (Binding id.0) =
    Contains-append_left (bound_by source.body.self_param) rest (Binding id.0) (subst (λ (own : Option BindingId). Contains (bound_by own) (Binding id.0)) (sym is) (0, omega arith, refl)) in
    ⊎_elim (λ lacks. subst (RefusesParameters source) (sym lacks.0) (id, within, lacks-binding source s id.0 None sound (sym lacks.1) refl)) (parameters-no-memory source error) cases
