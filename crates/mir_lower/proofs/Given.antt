-- An expression is given a new local: for its value, for its `!`, or for its index. Which of these, is an argument.
use Rattle.std.proofs.Common.{◌≡◌, ◌≢◌, ℕ, ◌<◌, ◌⊎◌, ⊎_elim, inl, inr, List, [], ◌∷◌, ◌++◌, length, Option, Some, None, refl, sym, ap, ◌∙◌}
use Rattle.std.specs.Prelude.{slice_get, option_map, option_and_then}
use Rattle.std.proofs.Math.ListN.{length-set}
use Rattle.std.proofs.lemmas.Bool.{cases_eq}
use Rattle.types.specs.declared.ty.Ty.{Ty}
use Rattle.mir.specs.declared.ids.LocalId.{LocalId}
use Rattle.source_meaning.specs.Source.{Source, Cell, Result, Node, Binding, IndexOf, Never, cell_type, node_type}
use Rattle.mir_graph.specs.declared.graph.Temps.{Temps}
use Rattle.mir_lower.specs.Does.{here}
use Rattle.mir_graph.specs.Graph.{Shape, temp_at, temp_of, never_of, index_local, binding_local, local_of, local_of_type, with_entry, with_value, with_never_value, with_index_value}
use Rattle.mir_lower.specs.Growth.{count_at, terminator_at, Grows, Spares, HasEvaluatedIndex, IsStored, IsSound, IsOpen}
use Rattle.mir_lower.proofs.Growing.{same_blocks, grows_by}
use Rattle.mir_graph.proofs.Lists.{slice_get-front, slice_get-set_same, slice_get-set_other, slice_get_in, slice_get_below}
use Rattle.mir_lower.proofs.Sound.{one-more-allotted}
use Rattle.mir_lower.proofs.Sparing.{spares-same}

-- A table in which one entry is changed.
module _ (change : Temps → Temps) (table : List Temps) (e : ℕ) where
  abbrev Changed : List Temps
  Changed = with_entry change table e (slice_get table e)

  -- the changed entry
  entry-same : e < length table → (temps : Temps) × (slice_get table e ≡ Some temps) × (slice_get Changed e ≡ Some (change temps))
  entry-same within =
      let found = slice_get_in table e within in
      (found.0, found.1, ap (λ entry. slice_get (with_entry change table e entry) e) found.1 ∙ slice_get-set_same table e (change found.0) within)

  -- the others stay
  entry-other : (f : ℕ) → f ≢ e → slice_get Changed f ≡ slice_get table f
  entry-other f differ = by-entry (slice_get table e) where
    by-entry : (entry : Option Temps) → slice_get (with_entry change table e entry) f ≡ slice_get table f
    by-entry (Some temps) = slice_get-set_other table e f (change temps) (λ same. differ (sym same))
    by-entry None = refl

  entry-length : length Changed ≡ length table
  entry-length = by-entry (slice_get table e) where
    by-entry : (entry : Option Temps) → length (with_entry change table e entry) ≡ length table
    by-entry (Some temps) = length-set table e (change temps)
    by-entry None = refl

  -- so does, of the changed one, what isn't changed
  entry-kept : (held : Temps → Option LocalId) → ((temps : Temps) → held (change temps) ≡ held temps) → option_and_then held (slice_get Changed e) ≡ option_and_then held (slice_get table e)
  entry-kept held same = by-entry (slice_get table e) refl where
    by-entry : (entry : Option Temps) → slice_get table e ≡ entry → option_and_then held (slice_get (with_entry change table e entry) e) ≡ option_and_then held (slice_get table e)
    by-entry (Some temps) is = ap (option_and_then held) (slice_get-set_same table e (change temps) (slice_get_below table e temps is)) ∙ same temps ∙ sym (ap (option_and_then held) is)
    by-entry None is = refl

-- which local of an expression
pub data Which : Type 0 where
  ForValue : Which
  ForNever : Which
  ForIndex : Which

-- the cell whose value it holds
abbrev pub cell_for : Which → ℕ → Cell
cell_for ForValue e = Node e
cell_for ForNever e = Never e
cell_for ForIndex e = IndexOf e

abbrev held_for : Which → Temps → Option LocalId
held_for ForValue temps = temps.value
held_for ForNever temps = temps.never
held_for ForIndex temps = temps.index

abbrev changed_for : Which → ℕ → Temps → Temps
changed_for ForValue local temps = with_value local temps
changed_for ForNever local temps = with_never_value local temps
changed_for ForIndex local temps = with_index_value local temps

-- an index has the cell's type
pub index-cell : (source : Source) (e index : ℕ) → HasEvaluatedIndex source e index → cell_type source (IndexOf e) ≡ node_type source index
index-cell source e index there = ap (option_and_then (node_type source)) there.has

-- the graph where it is a new one
abbrev pub with_local : Which → ℕ → Ty → Shape → Shape
with_local which e ty s = record s { locals = s.locals ++ local_of_type ty ∷ []; temps = with_entry (changed_for which (length s.locals)) s.temps e (slice_get s.temps e) }

in-table : (which : Which) (s : Shape) (e : ℕ) → local_of s (cell_for which e) ≡ temp_at (held_for which) s.temps e
unfolding temp_of never_of index_local
in-table ForValue s e = refl
in-table ForNever s e = refl
in-table ForIndex s e = refl

changed-held : (which : Which) (l : ℕ) (temps : Temps) → held_for which (changed_for which l temps) ≡ Some (record { 0 = l })
changed-held ForValue l temps = refl
changed-held ForNever l temps = refl
changed-held ForIndex l temps = refl

-- two are one, or where the first is changed the second stays
one-or-kept : (which other : Which) → (which ≡ other) ⊎ ((l : ℕ) (temps : Temps) → held_for other (changed_for which l temps) ≡ held_for other temps)
one-or-kept ForValue ForValue = inl refl
one-or-kept ForValue ForNever = inr (λ l temps. refl)
one-or-kept ForValue ForIndex = inr (λ l temps. refl)
one-or-kept ForNever ForValue = inr (λ l temps. refl)
one-or-kept ForNever ForNever = inl refl
one-or-kept ForNever ForIndex = inr (λ l temps. refl)
one-or-kept ForIndex ForValue = inr (λ l temps. refl)
one-or-kept ForIndex ForNever = inr (λ l temps. refl)
one-or-kept ForIndex ForIndex = inl refl

module _ (which : Which) (e : ℕ) (ty : Ty) (s : Shape) where
  abbrev New : Shape
  New = with_local which e ty s

  abbrev change : Temps → Temps
  change = changed_for which (length s.locals)

  -- the cell has the new local
  pub given-local : e < length s.temps → local_of New (cell_for which e) ≡ Some (length s.locals)
  given-local within =
      let entry = entry-same change s.temps e within in
      in-table which New e
      ∙ ap (λ (t : Option Temps). option_map (λ (l : LocalId). l.0) (option_and_then (held_for which) t)) entry.2
      ∙ ap (option_map (λ (l : LocalId). l.0)) (changed-held which (length s.locals) entry.0)

  -- any other keeps its own
  kept-in-table : (other : Which) (f : ℕ) → option_and_then (held_for other) (slice_get New.temps f) ≡ option_and_then (held_for other) (slice_get s.temps f) → local_of New (cell_for other f) ≡ local_of s (cell_for other f)
  kept-in-table other f kept = in-table other New f ∙ ap (option_map (λ (l : LocalId). l.0)) kept ∙ sym (in-table other s f)

  of-expression : (other : Which) (f : ℕ) → (cell_for other f ≡ cell_for which e) ⊎ (local_of New (cell_for other f) ≡ local_of s (cell_for other f))
  of-expression other f =
      ⊎_elim
      (λ same. ⊎_elim
      (λ one. inl (ap (λ w. cell_for w f) (sym one) ∙ ap (cell_for which) same))
      (λ kept. inr (kept-in-table other f
      (ap (λ i. option_and_then (held_for other) (slice_get New.temps i)) same
      ∙ entry-kept change s.temps e (held_for other) (kept (length s.locals))
      ∙ ap (λ i. option_and_then (held_for other) (slice_get s.temps i)) (sym same))))
      (one-or-kept which other))
      (λ differ. inr (kept-in-table other f (ap (option_and_then (held_for other)) (entry-other change s.temps e f differ))))
      (cases_eq f e)

  given-or-kept : (c : Cell) → (c ≡ cell_for which e) ⊎ (local_of New c ≡ local_of s c)
  unfolding binding_local
  given-or-kept Result = inr refl
  given-or-kept (Binding b) = inr refl
  given-or-kept (Node f) = of-expression ForValue f
  given-or-kept (Never f) = of-expression ForNever f
  given-or-kept (IndexOf f) = of-expression ForIndex f

  -- where the cell had none, so does each
  keeps-locals : local_of s (cell_for which e) ≡ None → (c : Cell) (l : ℕ) → local_of s c ≡ Some l → local_of New c ≡ Some l
  keeps-locals none c l h =
      ⊎_elim (λ given. let missing : local_of s c ≡ None = ap (local_of s) given ∙ none in absurd cc) (λ kept. kept ∙ h) (given-or-kept c)

  pub with_local-grows : local_of s (cell_for which e) ≡ None → Grows s New
  with_local-grows none = grows_by s New (same_blocks s.blocks) refl refl (λ i l h. slice_get-front s.locals (local_of_type ty ∷ []) i l h) (keeps-locals none)

  pub with_local-spares : Spares s New
  with_local-spares = spares-same s New refl refl refl

  pub with_local-open : IsOpen s → IsOpen New
  unfolding terminator_at
  with_local-open opened = record { there = opened.there; unended = opened.unended }

  pub with_local-here : here New ≡ here s
  unfolding count_at
  with_local-here = refl

  pub with_local-sound : (source : Source) → e < length s.temps → cell_type source (cell_for which e) ≡ Some ty → IsStored source (cell_for which e) → local_of s (cell_for which e) ≡ None → IsSound source s → IsSound source New
  unfolding binding_local
  with_local-sound source within has stored none sound =
      let given = given-local within in
      record {
        nodes = entry-length change s.temps e ∙ sound.nodes;
        bound = λ b t h. sound.bound b t h;
        allotted = one-more-allotted source s New (cell_for which e) ty refl stored given has
            (λ c l h. ⊎_elim (λ one. let h' : local_of New (cell_for which e) ≡ Some l = ap (local_of New) (sym one) ∙ h in inl (one, (cc))) (λ kept. inr (sym kept ∙ h)) (given-or-kept c))
            (keeps-locals none) sound.allotted;
      }
