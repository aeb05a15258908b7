-- `==` and `cmp` tell two elements of projections apart exactly where they differ.
use Rattle.std.specs.Prelude.{◌≡◌, ◌==◌, Bool, true, List, refl}
use Rattle.std.proofs.Common.{ap, subst}
use Rattle.std.specs.Bool.{Decides}
use Rattle.std.specs.Cmp.{IsEquivalence, booleans_Decides, unsigned_Decides}
use Rattle.std.specs.Cmp.Lexicographic.{slice_cmp, pointwise_decides, lists_ties}
use Rattle.std.specs.Ordering.{is_eq}
use mathlib.Core.Bool.{beq}
use Rattle.std.specs.declared.cmp.Ordering.{Ordering}
use Rattle.either.specs.contracts.EitherPartialEq.TheImpl as EitherPartialEq
use Rattle.either.specs.declared.Either.{Either}
use Rattle.either.specs.declared.Either.TheVariants.{Left, Right}
use Rattle.types.specs.SameScalars.{differ, both, enum_variant_same, struct_same, union_same}
use Rattle.types.specs.SameType.{type_decides}
use Rattle.types.specs.contracts.ids.FieldIdPartialEq.TheImpl as FieldIdPartialEq
use Rattle.types.specs.contracts.ids.TupleFieldIdPartialEq.TheImpl as TupleFieldIdPartialEq
use Rattle.types.specs.contracts.ids.VariantIdPartialEq.TheImpl as VariantIdPartialEq
use Rattle.types.specs.contracts.ids.FieldId as field_row
use Rattle.types.specs.contracts.ids.TupleFieldId as tuple_field_row
use Rattle.types.specs.declared.ids.FieldId.{FieldId}
use Rattle.types.specs.declared.ids.TupleFieldId.{TupleFieldId}
use Rattle.types.specs.declared.ids.VariantId.{VariantId}
use Rattle.types.specs.declared.ids.VariantId.TheVariants.{EnumVariantId, StructId, UnionId}
use Rattle.mir.specs.contracts.ids.LocalId as local_row
use Rattle.mir.specs.contracts.ids.LocalIdEq.TheImpl as LocalIdEq
use Rattle.mir.specs.contracts.ids.LocalIdEq.TheImpl.Laws as local_equal
use Rattle.mir.specs.contracts.ids.LocalIdOrd.TheImpl as LocalIdOrd
use Rattle.mir.specs.contracts.ids.LocalIdOrd.TheImpl.Laws as local_ordered
use Rattle.mir.specs.contracts.ids.LocalIdPartialEq.TheImpl as LocalIdPartialEq
use Rattle.mir.specs.contracts.ids.LocalIdPartialEq.TheImpl.Laws as local_partly_equal
use Rattle.mir.specs.contracts.ids.LocalIdPartialOrd.TheImpl as LocalIdPartialOrd
use Rattle.mir.specs.contracts.ids.LocalIdPartialOrd.TheImpl.Laws as local_partly_ordered
use Rattle.mir.specs.contracts.projection.ProjectionElemEq.TheImpl.Laws as equal
use Rattle.mir.specs.contracts.projection.ProjectionElemOrd.TheImpl as ProjectionElemOrd
use Rattle.mir.specs.contracts.projection.ProjectionElemOrd.TheImpl.Laws as ordered
use Rattle.mir.specs.contracts.projection.ProjectionElemPartialEq.TheImpl as ProjectionElemPartialEq
use Rattle.mir.specs.declared.ids.LocalId.{LocalId}
use Rattle.mir.specs.declared.projection.ProjectionElem.{ProjectionElem}
use Rattle.mir.specs.declared.projection.ProjectionElem.TheVariants.{Deref, Field, ClosureField, Index, ConstantIndex, Subslice, OpaqueCast}

-- an element of a place's projection
abbrev pub PlaceElem : Type 0
PlaceElem = ProjectionElem LocalId

-- whether two elements are equal
abbrev pub elem_eq : PlaceElem → PlaceElem → Bool
elem_eq = (ProjectionElemPartialEq.ghosts local_row.the_row LocalIdPartialEq.ghosts LocalIdPartialEq.dict).eq

-- the order of elements
abbrev pub elem_cmp : PlaceElem → PlaceElem → Ordering
elem_cmp = (ProjectionElemOrd.ghosts local_row.the_row LocalIdPartialEq.ghosts LocalIdPartialEq.dict LocalIdOrd.ghosts LocalIdOrd.dict LocalIdEq.ghosts LocalIdEq.dict LocalIdPartialOrd.ghosts LocalIdPartialOrd.dict).cmp

variant_same : (a b : VariantId) → VariantIdPartialEq.ghosts.eq a b ≡ true → a ≡ b
variant_same (EnumVariantId a) (EnumVariantId b) h = ap EnumVariantId (enum_variant_same a b h)
variant_same (EnumVariantId a) _ h = differ h
variant_same (StructId a) (StructId b) h = ap StructId (struct_same a b h)
variant_same (StructId a) _ h = differ h
variant_same (UnionId a) (UnionId b) h = ap UnionId (union_same a b h)
variant_same (UnionId a) _ h = differ h

field_same : (a b : FieldId) → FieldIdPartialEq.ghosts.eq a b ≡ true → a ≡ b
field_same a b h =
    let p = both (VariantIdPartialEq.ghosts.eq a.parent b.parent) (a.local_id == b.local_id) h in
    λ i. record { parent = variant_same a.parent b.parent p.0 i; local_id = (unsigned_Decides a.local_id b.local_id).0 p.1 i }

tuple_field_same : (a b : TupleFieldId) → TupleFieldIdPartialEq.ghosts.eq a b ≡ true → a ≡ b
tuple_field_same a b h =
    let p = both (a.tuple == b.tuple) (a.index == b.index) h in
    λ i. record { tuple = (unsigned_Decides a.tuple b.tuple).0 p.0 i; index = (unsigned_Decides a.index b.index).0 p.1 i }

abbrev either_eq : Either FieldId TupleFieldId → Either FieldId TupleFieldId → Bool
either_eq = (EitherPartialEq.ghosts field_row.the_row tuple_field_row.the_row FieldIdPartialEq.ghosts FieldIdPartialEq.dict TupleFieldIdPartialEq.ghosts TupleFieldIdPartialEq.dict).eq

either_same : (a b : Either FieldId TupleFieldId) → either_eq a b ≡ true → a ≡ b
either_same (Left a) (Left b) h = ap Left (field_same a b h)
either_same (Left a) _ h = differ h
either_same (Right a) (Right b) h = ap Right (tuple_field_same a b h)
either_same (Right a) _ h = differ h

local_same : (a b : LocalId) → LocalIdPartialEq.ghosts.eq a b ≡ true → a ≡ b
local_same a b h i = record { 0 = (unsigned_Decides a.0 b.0).0 h i }

elem_same : (a b : PlaceElem) → elem_eq a b ≡ true → a ≡ b
elem_same Deref Deref h = refl
elem_same Deref _ h = differ h
elem_same (Field a) (Field b) h = ap Field (either_same a b h)
elem_same (Field a) _ h = differ h
elem_same (ClosureField a) (ClosureField b) h = ap ClosureField ((unsigned_Decides a b).0 h)
elem_same (ClosureField a) _ h = differ h
elem_same (Index a) (Index b) h = ap Index (local_same a b h)
elem_same (Index a) _ h = differ h
elem_same (ConstantIndex a c) (ConstantIndex b d) h =
    let p = both (a == b) (beq c d) h in
    λ i. ConstantIndex ((unsigned_Decides a b).0 p.0 i) ((booleans_Decides c d).0 p.1 i)
elem_same (ConstantIndex a c) _ h = differ h
elem_same (Subslice a c) (Subslice b d) h =
    let p = both (a == b) (c == d) h in
    λ i. Subslice ((unsigned_Decides a b).0 p.0 i) ((unsigned_Decides c d).0 p.1 i)
elem_same (Subslice a c) _ h = differ h
elem_same (OpaqueCast a) (OpaqueCast b) h = ap OpaqueCast ((type_decides a b).0 h)
elem_same (OpaqueCast a) _ h = differ h

pub elem_equiv : IsEquivalence elem_eq
elem_equiv = equal.laws-law local_row.the_row LocalIdPartialEq.ghosts LocalIdPartialEq.dict LocalIdEq.ghosts LocalIdEq.dict (record { laws = local_partly_equal.laws-law }) (record { laws = local_equal.laws-law })

pub elem_decides : (a b : PlaceElem) → Decides (elem_eq a b) (a ≡ b)
elem_decides a b = (elem_same a b, λ same. subst (λ x. elem_eq a x ≡ true) same (elem_equiv.refl a))

elem_ties : (a b : PlaceElem) → elem_eq a b ≡ is_eq (elem_cmp a b)
elem_ties =
    ordered.matches_eq-law local_row.the_row LocalIdPartialEq.ghosts LocalIdPartialEq.dict LocalIdOrd.ghosts LocalIdOrd.dict LocalIdEq.ghosts LocalIdEq.dict LocalIdPartialOrd.ghosts LocalIdPartialOrd.dict
    (record { laws = local_partly_equal.laws-law }) (record { total = local_ordered.total-law; matches_partial_cmp = local_ordered.matches_partial_cmp-law; matches_eq = local_ordered.matches_eq-law })
    (record { laws = local_equal.laws-law }) (record { laws = local_partly_ordered.laws-law })

-- projections tie just where they are the same
pub projection_decides : (p q : List PlaceElem) → Decides (is_eq (slice_cmp elem_cmp p q)) (p ≡ q)
projection_decides p q = subst (λ r. Decides r (p ≡ q)) (lists_ties elem_cmp elem_ties p q) (pointwise_decides elem_decides p q)
