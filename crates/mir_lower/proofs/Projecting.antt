-- Places of the graph as it grows, and places within them.
use Rattle.std.proofs.Common.{◌≡◌, ◌<◌, Bool, true, false, List, [], ◌∷◌, ◌++◌, length, Some, if◌then◌else◌, ◌==◌, refl, sym, ap, ◌∙◌, subst}
use borrow.Author.Tests.{eqb-true}
use Rattle.mir.specs.Elements.{PlaceElem as GraphElem}
use Rattle.mir.specs.Projections.{AreInterned, HasId, Projection, projection_of}
use Rattle.mir.specs.declared.operand.Place.{Place as GraphPlace}
use Rattle.mir.specs.declared.projection.ProjectionId.{ProjectionId}
use Rattle.mir.specs.declared.ids.LocalId.{LocalId}
use Rattle.mir.specs.WholePlaces.{whole_place}
use Rattle.source_meaning.specs.Core.{PlaceElem, Part, FieldOf, ElementAt}
use Rattle.source_meaning.specs.Source.{Source, Cell, IndexOf, Place, projected, whole as place_of_cell}
use Rattle.mir_lower.specs.Does.{AreElements, IsAt, IsElement, here}
use Rattle.mir_graph.specs.Graph.{Shape, IsProjected, elements_in, index_local, local_of, never_of, temp_of, with_projections}
use Rattle.mir_lower.specs.Growth.{Grows, Spares, IsSound, IsOpen, count_at, statement_at, terminator_at}
use Rattle.mir_graph.proofs.Lists.{slice_get_below}
use Rattle.mir_lower.proofs.Sound.{sound_by}
use Rattle.mir_lower.proofs.Sparing.{spares-same}
use Rattle.mir_lower.proofs.Steps.{local_of-grows}

-- an id that stands for elements stands for them in each store that has what this one has
pub elements-later : (old new : List Projection) → ((id : ProjectionId) (elements : Projection) → projection_of old id ≡ Some elements → projection_of new id ≡ Some elements) → (id : ProjectionId) (elements : Projection) → elements_in old id ≡ Some elements → elements_in new id ≡ Some elements
elements-later old new kept id elements is = by_test (id.0 == 0) is
  where
    by_test : (test : Bool) → if test then Some [] else projection_of old id ≡ Some elements → if test then Some [] else projection_of new id ≡ Some elements
    by_test true h = h
    by_test false h = kept id elements h

-- an element of the graph is the same one of the source later
pub element-later : (old new : Shape) → Grows old new → (elem : PlaceElem) (one : GraphElem) → IsElement old elem one → IsElement new elem one
element-later old new grows (Part index) one is = is
element-later old new grows (FieldOf field) one is = is
element-later old new grows (ElementAt e index) one is = (is.0, local_of-grows old new grows (IndexOf e) is.0 is.1, is.2)

pub are-later : (old new : Shape) → Grows old new → (elems : List PlaceElem) (ones : Projection) → AreElements old elems ones → AreElements new elems ones
are-later old new grows [] [] are = tt
are-later old new grows [] (one ∷ others) are = absurd are
are-later old new grows (elem ∷ rest) [] are = absurd are
are-later old new grows (elem ∷ rest) (one ∷ others) are = (element-later old new grows elem one are.0, are-later old new grows rest others are.1)

-- one more element
pub are-more : (s : Shape) (elems : List PlaceElem) (ones : Projection) (elem : PlaceElem) (one : GraphElem) → AreElements s elems ones → IsElement s elem one → AreElements s (elems ++ elem ∷ []) (ones ++ one ∷ [])
are-more s [] [] elem one are is = (is, tt)
are-more s [] (first ∷ others) elem one are is = absurd are
are-more s (first ∷ rest) [] elem one are is = absurd are
are-more s (first ∷ rest) (other ∷ others) elem one are is = (are.0, are-more s rest others elem one are.1 is)

-- all of a local is all of the cell that it holds
pub whole-at : (s : Shape) (local : LocalId) (cell : Cell) → local_of s cell ≡ Some local.0 → IsAt s (whole_place local) (place_of_cell cell)
whole-at s local cell found = record { found = found; projection = []; elements = refl; same = tt }

-- a place of the graph is the same one of the source later
pub at-later : (old new : Shape) → Grows old new → (place : GraphPlace) (at : Place) → IsAt old place at → IsAt new place at
at-later old new grows place at is = record {
  found = local_of-grows old new grows at.cell place.local.0 is.found;
  projection = is.projection;
  elements = elements-later old.projections new.projections grows.projections place.projection is.projection is.elements;
  same = are-later old new grows at.projection is.projection is.same;
}

-- where projections are added, all else stays
pub projected-grows : (old new : Shape) (place : GraphPlace) (elem : GraphElem) (made : GraphPlace) → IsProjected old new place elem made → Grows old new
unfolding statement_at temp_of never_of index_local
projected-grows old new place elem made is =
    subst (λ (s : Shape). Grows old s) (sym is.rest)
    (record {
      statements = λ b i x h. h;
      ended = λ b block t h ended. h;
      locals = λ i l h. h;
      bindings = refl;
      temps = λ e l h. h;
      nevers = λ e l h. h;
      indices = λ e l h. h;
      projections = is.kept;
    })

pub projected-spares : (old new : Shape) (place : GraphPlace) (elem : GraphElem) (made : GraphPlace) → IsProjected old new place elem made → Spares old new
projected-spares old new place elem made is = subst (λ (s : Shape). Spares old s) (sym is.rest) (spares-same old (with_projections new.projections old) refl refl refl)

pub projected-sound : (source : Source) (old new : Shape) (place : GraphPlace) (elem : GraphElem) (made : GraphPlace) → IsProjected old new place elem made → IsSound source old → IsSound source new
projected-sound source old new place elem made is sound = subst (λ (s : Shape). IsSound source s) (sym is.rest) (sound_by source old (with_projections new.projections old) refl refl refl sound)

pub projected-open : (old new : Shape) (place : GraphPlace) (elem : GraphElem) (made : GraphPlace) → IsProjected old new place elem made → IsOpen old → IsOpen new
unfolding terminator_at
projected-open old new place elem made is opened = subst (λ (s : Shape). IsOpen s) (sym is.rest) (record { there = opened.there; unended = opened.unended })

pub projected-scope : (old new : Shape) (place : GraphPlace) (elem : GraphElem) (made : GraphPlace) → IsProjected old new place elem made → new.scope ≡ old.scope
projected-scope old new place elem made is = ap (λ (s : Shape). s.scope) is.rest

pub projected-here : (old new : Shape) (place : GraphPlace) (elem : GraphElem) (made : GraphPlace) → IsProjected old new place elem made → here new ≡ here old
unfolding count_at
projected-here old new place elem made is = ap here is.rest

-- the place that was made is the one that the source's element leads to
pub projected-at : (old new : Shape) (elem : PlaceElem) (one : GraphElem) (place made : GraphPlace) → IsElement old elem one → IsProjected old new place one made → (at : Place) → IsAt old place at → IsAt new made (projected elem at)
projected-at old new elem one place made element is at same =
    let more = projected-grows old new place one made is in
    let found = local_of-grows old new more at.cell place.local.0 same.found in
    record {
      found = found ∙ ap (λ local. Some local.0) (sym is.local);
      projection = same.projection ++ one ∷ [];
      elements = is.longer same.projection same.elements;
      same = are-more new at.projection same.projection elem one (are-later old new more at.projection same.projection same.same) (element-later old new more elem one element);
    }

-- a place of the graph has a projection that the graph has
pub place-known : (s : Shape) → AreInterned s.projections → (place : GraphPlace) (at : Place) → IsAt s place at → HasId s.projections place.projection
place-known s interned place at is = by_test (place.projection.0 == 0) refl is.elements
  where
    by_test : (test : Bool) → place.projection.0 == 0 ≡ test → if test then Some [] else projection_of s.projections place.projection ≡ Some is.projection → HasId s.projections place.projection
    by_test true none h = subst (λ n. n < length s.projections) (sym (eqb-true place.projection.0 0 none)) (slice_get_below s.projections 0 [] interned.empty)
    by_test false some h = slice_get_below s.projections place.projection.0 is.projection h
