-- The projections of an interner are told apart by the lists alone: the law of them has one proof.
use base.Stored.{coded_via}
use Rattle.std.specs.Prelude.{◌≡◌, List}
use Rattle.std.proofs.Common.{ap, subst}
use Rattle.std.specs.Coded.{Coded, Coded-set, coded_list, coded_option, le_prop}
use Rattle.mir.specs.contracts.ids.LocalId as local_row
use Rattle.mir.specs.contracts.projection.ProjectionElem as elem_row
use Rattle.mir.specs.contracts.projection.ProjectionId as id_row
use Rattle.mir.specs.Elements.{PlaceElem}
use Rattle.mir.specs.Projections.{AreInterned, Interned, Projection}

abbrev elem_code : Coded PlaceElem
elem_code = (elem_row.the_row local_row.the_row).coded

pub interned_prop : (kept : List Projection) → IsProp (AreInterned kept)
interned_prop kept one other i = record {
  once = λ a b has same. Coded-set id_row.the_row.coded a b (one.once a b has same) (other.once a b has same) i;
  empty = Coded-set (coded_option (coded_list elem_code)) _ _ one.empty other.empty i;
  count = le_prop one.count other.count i;
}

abbrev made : (kept : List Projection) → AreInterned kept → Interned
made kept law = record { projections = kept; law = law }

pub same_interned : (one other : Interned) → one.projections ≡ other.projections → one ≡ other
same_interned one other same =
    subst (λ (kept : List Projection). (law : AreInterned kept) → one ≡ made kept law) same
    (λ law. ap (made one.projections) (interned_prop one.projections one.law law)) other.law

-- how the logic stores them: as the lists
abbrev pub interned_code : Coded Interned
interned_code = coded_via (coded_list (coded_list elem_code)) (λ interned. interned.projections) same_interned
