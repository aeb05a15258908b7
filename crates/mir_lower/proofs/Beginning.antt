-- The graph that lowering begins with: one binding after another is added, and then it can be lowered into.
use Rattle.std.proofs.Common.{◌≡◌, ℕ, zero, suc, ◌+◌, ◌<◌, ◌⊎◌, ⊎_elim, inl, inr, List, [], ◌∷◌, ◌++◌, length, Option, Some, None, refl, sym, ap, ◌∙◌, subst, arith, append-nil, append_assoc, length-append}
use Rattle.std.specs.Prelude.{is_some, if◌then◌else◌, option_and_then, option_map, replicate, slice_get}
use Rattle.std.proofs.lemmas.Bool.{cases_lt}
use Rattle.std.proofs.lemmas.Option.{option_and_then_some}
use Rattle.std.proofs.Math.ListN.{length-replicate}
use Rattle.types.specs.declared.ty.Ty.{Ty}
use Rattle.mir.specs.declared.body.Local.{Local}
use Rattle.mir.specs.declared.ids.LocalId.{LocalId}
use Rattle.mir.specs.Projections.{Projection}
use Rattle.mir_graph.specs.declared.graph.Temps.{Temps}
use Rattle.source_meaning.specs.Source.{Source, Cell, Result, Node, Binding, IndexOf, Never, binding_type, cell_type, node_type, root}
use Rattle.mir_graph.specs.Graph.{Shape, no_statements, no_temps, first_shape, local_at, local_of, local_of_type, binding_local, temp_at, temp_of, never_of, index_local, with_binding, with_scope}
use Rattle.mir_lower.specs.Growth.{terminator_at, IsStored, IsFirst, IsSound, IsOpen}
use Rattle.mir_lower.specs.Order.{first_locals, local_if_any}
use Rattle.mir_graph.proofs.Lists.{slice_get-front, slice_get-last, slice_get-more, slice_get_below}
use Rattle.mir_lower.proofs.Sound.{no-more-allotted, one-more-allotted, with_scope-sound, with_scope-open}

-- no expression has a local at first
none-at : (which : Temps → Option LocalId) → which no_temps ≡ None → (n e l : ℕ) → temp_at which (replicate n no_temps) e ≡ Some l → ⊥
none-at which none zero e l h = cc
none-at which none (suc n) zero l h = cc
none-at which none (suc n) (suc e) l h = none-at which none n e l h

first-cell : (ty : Ty) (nodes : ℕ) (kept : List Projection) (c : Cell) (l : ℕ) → local_of (first_shape ty nodes kept) c ≡ Some l → (c ≡ Result) × (l ≡ 0)
unfolding temp_of never_of index_local binding_local
first-cell ty nodes kept Result l h = (refl, (let same : 0 ≡ l = cc in sym same))
first-cell ty nodes kept (Node e) l h = absurd (none-at (λ temps. temps.value) refl nodes e l h)
first-cell ty nodes kept (Binding b) l h = cc
first-cell ty nodes kept (Never e) l h = absurd (none-at (λ temps. temps.never) refl nodes e l h)
first-cell ty nodes kept (IndexOf e) l h = absurd (none-at (λ temps. temps.index) refl nodes e l h)

-- without a binding
pub first-none : (source : Source) (ty : Ty) (nodes : ℕ) (kept : List Projection) → nodes ≡ length source.body.exprs → node_type source (root source) ≡ Some ty → IsFirst source 0 (first_shape ty nodes kept)
unfolding first_locals
first-none source ty nodes kept many typed =
    record {
      blocks = refl;
      current = refl;
      scope = refl;
      targets = refl;
      locals = sym (ap local_if_any typed);
      nodes = length-replicate nodes no_temps ∙ many;
      bindings = refl;
      bound = λ b t less h. absurd (omega arith);
      allotted = record {
        typed = λ c l h. let is = first-cell ty nodes kept c l h in (local_of_type ty, ap (slice_get (local_of_type ty ∷ [])) is.1, ap (cell_type source) is.0 ∙ typed);
        own = λ c d l h k. (first-cell ty nodes kept c l h).0 ∙ sym (first-cell ty nodes kept d l k).0;
        cells = only;
      };
    } where
      only : (l : ℕ) (local : Local) → slice_get (local_of_type ty ∷ []) l ≡ Some local → (cell : Cell) × IsStored source cell × (local_of (first_shape ty nodes kept) cell ≡ Some l) × (cell_type source cell ≡ Some local.ty)
      only zero local h = (let same : local_of_type ty ≡ local = cc in (Result, tt, refl, typed ∙ ap (λ (l : Local). Some l.ty) same))
      only (suc l) local h = cc

-- a table with one more place
at-last : (table : List (Option LocalId)) (local : LocalId) → local_at (table ++ Some local ∷ []) (length table) ≡ Some local.0
at-last table local = ap (λ entry. option_map (λ (l : LocalId). l.0) (option_and_then (λ l. l) entry)) (slice_get-last table (Some local))

entry-of : (entry : Option (Option LocalId)) (l : ℕ) → option_map (λ (local : LocalId). local.0) (option_and_then (λ local. local) entry) ≡ Some l → (local : LocalId) × (entry ≡ Some (Some local)) × (local.0 ≡ l)
entry-of (Some (Some local)) l h = (local, refl, (let same : local.0 ≡ l = cc in same))
entry-of (Some None) l h = cc
entry-of None l h = cc

at-front : (table : List (Option LocalId)) (more : Option LocalId) (i l : ℕ) → local_at table i ≡ Some l → local_at (table ++ more ∷ []) i ≡ Some l
at-front table more i l h =
    let is = entry-of (slice_get table i) l h in
    ap (λ entry. option_map (λ (local : LocalId). local.0) (option_and_then (λ local. local) entry)) (slice_get-front table (more ∷ []) i (Some is.0) is.1) ∙ ap Some is.2

at-more : (table : List (Option LocalId)) (more : Option LocalId) (i l : ℕ) → local_at (table ++ more ∷ []) i ≡ Some l → ((i ≡ length table) × (option_map (λ local. local.0) more ≡ Some l)) ⊎ (local_at table i ≡ Some l)
at-more table more i l h =
    let is = entry-of (slice_get (table ++ more ∷ []) i) l h in
    ⊎_elim
    (λ last. inl (last.0, ap (option_map (λ (local : LocalId). local.0)) last.1 ∙ ap Some is.2))
    (λ front. inr (ap (λ entry. option_map (λ (local : LocalId). local.0) (option_and_then (λ local. local) entry)) front ∙ ap Some is.2))
    (slice_get-more table more (Some is.0) i is.1)

-- one more binding: where a closure owns it, no cell has another local, and otherwise it has the new one
unbound-cells : (s : Shape) (c : Cell) (l : ℕ) → local_of (with_binding None s) c ≡ Some l → local_of s c ≡ Some l
unfolding with_binding temp_of never_of index_local binding_local
unbound-cells s (Binding b) l h = ⊎_elim (λ last. (let none = last.1 in cc)) (λ front. front) (at-more s.bindings None b l h)
unbound-cells s _ l h = h

bound-cells : (ty : Ty) (s : Shape) (c : Cell) (l : ℕ) → local_of (with_binding (Some ty) s) c ≡ Some l → ((c ≡ Binding (length s.bindings)) × (l ≡ length s.locals)) ⊎ (local_of s c ≡ Some l)
unfolding with_binding temp_of never_of index_local binding_local
bound-cells ty s (Binding b) l h =
    ⊎_elim (λ last. inl (ap Binding last.0, (let is = last.1 in let same : length s.locals ≡ l = cc in sym same))) (λ front. inr front)
    (at-more s.bindings (Some (record { 0 = length s.locals })) b l h)
bound-cells ty s _ l h = inr h

-- each cell keeps its local
kept-cells : (ty : Option Ty) (s : Shape) (c : Cell) (l : ℕ) → local_of s c ≡ Some l → local_of (with_binding ty s) c ≡ Some l
unfolding with_binding temp_of never_of index_local binding_local
kept-cells None s (Binding b) l h = at-front s.bindings None b l h
kept-cells (Some ty) s (Binding b) l h = at-front s.bindings (Some (record { 0 = length s.locals })) b l h
kept-cells None s _ l h = h
kept-cells (Some ty) s _ l h = h

-- the bindings up to one, and that one
up-to : (b n : ℕ) → b < n + 1 → (b < n) ⊎ (b ≡ n)
up-to b n less = ⊎_elim (λ before. inl before) (λ past. inr (omega arith)) (cases_lt b n)

more-locals : (source : Source) (n : ℕ) (ty : Option Ty) → binding_type source n ≡ ty → first_locals source (n + 1) ≡ first_locals source n ++ local_if_any ty
unfolding first_locals
more-locals source n ty is =
    let next : n + 1 ≡ suc n = omega arith in
    ap (first_locals source) next ∙ ap (λ (t : Option Ty). first_locals source n ++ local_if_any t) is

pub first-more : (source : Source) (s : Shape) (n : ℕ) → IsFirst source n s → IsFirst source (n + 1) (with_binding (binding_type source n) s)
unfolding with_binding binding_local
first-more source s n first = by-type (binding_type source n) refl where
  by-type : (ty : Option Ty) → binding_type source n ≡ ty → IsFirst source (n + 1) (with_binding ty s)
  by-type None is =
      let long = length-append s.bindings (None ∷ []) in
      let many = first.bindings in
      record {
        blocks = first.blocks;
        current = first.current;
        scope = first.scope;
        targets = first.targets;
        locals = first.locals ∙ sym (append-nil (first_locals source n)) ∙ sym (more-locals source n None is);
        nodes = first.nodes;
        bindings = omega arith;
        bound = λ b t less h. ⊎_elim
            (λ before. let at = first.bound b t before h in (at.0, at-front s.bindings None b at.0 at.1))
            (λ same. let h' : binding_type source n ≡ Some t = ap (binding_type source) (sym same) ∙ h in absurd cc)
            (up-to b n less);
        allotted = no-more-allotted source s (with_binding None s) refl (unbound-cells s) (kept-cells None s) first.allotted;
      }
  by-type (Some ty) is =
      let long = length-append s.bindings (Some (record { 0 = length s.locals }) ∷ []) in
      let many = first.bindings in
      record {
        blocks = first.blocks;
        current = first.current;
        scope = first.scope;
        targets = first.targets;
        locals = ap (λ (ls : List Local). ls ++ local_of_type ty ∷ []) first.locals ∙ sym (more-locals source n (Some ty) is);
        nodes = first.nodes;
        bindings = omega arith;
        bound = λ b t less h. ⊎_elim
            (λ before. let at = first.bound b t before h in (at.0, at-front s.bindings (Some (record { 0 = length s.locals })) b at.0 at.1))
            (λ same. (length s.locals, ap (local_at (s.bindings ++ Some (record { 0 = length s.locals }) ∷ [])) (same ∙ sym many) ∙ at-last s.bindings (record { 0 = length s.locals })))
            (up-to b n less);
        allotted = one-more-allotted source s (with_binding (Some ty) s) (Binding (length s.bindings)) ty refl tt (at-last s.bindings (record { 0 = length s.locals })) (ap (binding_type source) many ∙ is) (bound-cells ty s) (kept-cells (Some ty) s) first.allotted;
      }

-- a binding with a type is one of the body's list
pub typed-below : (source : Source) (b : ℕ) (ty : Ty) → binding_type source b ≡ Some ty → b < length source.body.bindings
unfolding binding_type
typed-below source b ty h =
    option_and_then_some (λ binding. if is_some binding.owner then None else slice_get source.infer.binding_types b) (slice_get source.body.bindings b) ty h
    (λ binding found at. slice_get_below source.body.bindings b binding found)

-- with all bindings it can be lowered into
pub first-sound : (source : Source) (s : Shape) → IsFirst source (length source.body.bindings) s → IsSound source s
first-sound source s first =
    record {
      nodes = first.nodes;
      bound = λ b ty h. first.bound b ty (typed-below source b ty h) h;
      allotted = first.allotted;
    }

pub first-open : (source : Source) (n : ℕ) (s : Shape) → IsFirst source n s → IsOpen s
unfolding terminator_at
first-open source n s first =
    let one = ap length first.blocks in
    let zeroth = first.current in
    record {
      there = omega arith;
      unended = ap (λ bs. option_and_then (λ block. block.terminator) (slice_get bs s.current)) first.blocks
          ∙ ap (λ (n : ℕ). option_and_then (λ block. block.terminator) (slice_get (no_statements ∷ []) n)) first.current;
    }

-- the first graph, where some cells are in use
pub record IsBegun (source : Source) (cells : List Cell) (s : Shape) : Type 0 where
  pub sound : IsSound source s
  pub «open» : IsOpen s
  pub blocks : s.blocks ≡ no_statements ∷ []
  pub current : s.current ≡ 0
  pub scope : s.scope ≡ cells
  pub targets : s.targets ≡ []
  pub locals : s.locals ≡ first_locals source (length source.body.bindings)

module _ (source : Source) (s0 s1 : Shape) (cells : List Cell) (marked : s1 ≡ with_scope (s0.scope ++ cells) s0) where
  pub begins-marking : IsFirst source (length source.body.bindings) s0 → IsBegun source cells s1
  begins-marking first =
      record {
        sound = subst (IsSound source) (sym marked) (with_scope-sound source (s0.scope ++ cells) s0 (first-sound source s0 first));
        «open» = subst IsOpen (sym marked) (with_scope-open (s0.scope ++ cells) s0 (first-open source (length source.body.bindings) s0 first));
        blocks = ap (λ (s : Shape). s.blocks) marked ∙ first.blocks;
        current = ap (λ (s : Shape). s.current) marked ∙ first.current;
        scope = ap (λ (s : Shape). s.scope) marked ∙ ap (λ (scope : List Cell). scope ++ cells) first.scope;
        targets = ap (λ (s : Shape). s.targets) marked ∙ first.targets;
        locals = ap (λ (s : Shape). s.locals) marked ∙ first.locals;
      }

  -- with the cells that came into use since
  pub marked-since : (s2 : Shape) (inner : List Cell) → s2.scope ≡ s1.scope ++ inner → s2.scope ≡ s0.scope ++ (cells ++ inner)
  marked-since s2 inner since = since ∙ ap (λ (s : Shape). s.scope ++ inner) marked ∙ append_assoc s0.scope cells inner
