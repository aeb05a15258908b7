-- The order of types and constants, by their variants and parts.
use denote.Enum.Compared.{by, Each}
use denote.Enum.Declared.{Choice}
use denote.Hole.Carrier.{Values}
use denote.Hole.Compared.{compared_is}
use denote.Struct.Field.{Field}
use Rattle.std.proofs.Common.{sym, ◌∙◌, ap, suc, inl, inr, arith}
use Rattle.std.proofs.lemmas.Bool.Decides.{nat_tests}
use Rattle.std.specs.Cmp.{nat_cmp_is}
use Rattle.std.specs.Cmp.Lexicographic.{slice_cmp}
use Rattle.std.specs.Ordering.{ordering_then, nat_cmp}
use Rattle.std.specs.Prelude.{◌≡◌, ℕ, List, [], ◌∷◌, refl}
use Rattle.std.specs.declared.cmp.Ordering.{Ordering}
use Rattle.std.specs.declared.cmp.Ordering.TheVariants.{Less, Equal, Greater}
use Rattle.types.specs.Orders.{args_cmp, ty_cmp}
use Rattle.types.specs.contracts.bytes.BytesOrd.TheImpl as BytesOrd
use Rattle.types.specs.contracts.ids.AdtIdOrd.TheImpl as AdtIdOrd
use Rattle.types.specs.contracts.ids.AliasIdOrd.TheImpl as AliasIdOrd
use Rattle.types.specs.contracts.ids.CallableDefIdOrd.TheImpl as CallableDefIdOrd
use Rattle.types.specs.contracts.ids.GeneralConstIdOrd.TheImpl as GeneralConstIdOrd
use Rattle.types.specs.contracts.ids.InternedClosureIdOrd.TheImpl as InternedClosureIdOrd
use Rattle.types.specs.contracts.ids.TraitIdOrd.TheImpl as TraitIdOrd
use Rattle.types.specs.contracts.scalars.FloatTyOrd.TheImpl as FloatTyOrd
use Rattle.types.specs.contracts.scalars.IntTyOrd.TheImpl as IntTyOrd
use Rattle.types.specs.contracts.scalars.MutabilityOrd.TheImpl as MutabilityOrd
use Rattle.types.specs.contracts.scalars.UintTyOrd.TheImpl as UintTyOrd
use Rattle.types.specs.contracts.ty.Const as ConstParts
use Rattle.types.specs.contracts.ty.GenericArg as GenericArgParts
use Rattle.types.specs.contracts.ty.MemoryMap as MemoryMapParts
use Rattle.types.specs.contracts.ty.ParamConstOrd.TheImpl as ParamConstOrd
use Rattle.types.specs.contracts.ty.ParamTyOrd.TheImpl as ParamTyOrd
use Rattle.types.specs.contracts.ty.Ty as TyParts
use Rattle.types.specs.contracts.ty.TyOrd.TheImpl.{the_step}
use Rattle.types.specs.contracts.ty.TyOrd.TheImpl.Laws.{family, local}
use Rattle.types.specs.declared.bytes.Bytes.{Bytes}
use Rattle.types.specs.declared.ids.AdtId.{AdtId}
use Rattle.types.specs.declared.ids.CallableDefId.{CallableDefId}
use Rattle.types.specs.declared.ids.InternedClosureId.{InternedClosureId}
use Rattle.types.specs.declared.scalars.Mutability.{Mutability}
use Rattle.types.specs.declared.ty.ComplexMemoryMap.{ComplexMemoryMap}
use Rattle.types.specs.declared.ty.Const.{Const}
use Rattle.types.specs.declared.ty.Const.TheBlock.{the_members, the_sigs, the_carrier, the_depth, split-Const, split-GenericArg, split-MemoryMap, split-Ty, member-Const, member-GenericArg, member-MemoryMap, member-Ty, member-ComplexMemoryMap, member-GenericArgs, member-TraitRef, member-UnevaluatedConst, member-ValueConst}
use Rattle.types.specs.declared.ty.Const.TheOpen as one
use Rattle.types.specs.declared.ty.Const.TheOpen.{Const-F, GenericArg-F, MemoryMap-F, Ty-F, ComplexMemoryMap-F, GenericArgs-F, TraitRef-F, UnevaluatedConst-F, ValueConst-F}
use Rattle.types.specs.declared.ty.Const.TheVariants as constant
use Rattle.types.specs.declared.ty.Const.TheViews.{out-Const, roll-Const, out-roll-Const, roll-out-Const, out-GenericArg, roll-GenericArg, out-roll-GenericArg, roll-out-GenericArg, out-MemoryMap, roll-MemoryMap, out-roll-MemoryMap, roll-out-MemoryMap, out-Ty, roll-Ty, out-roll-Ty, roll-out-Ty, parts_is-GenericArg}
use Rattle.types.specs.declared.ty.GenericArg.{GenericArg}
use Rattle.types.specs.declared.ty.GenericArg.TheVariants as arg
use Rattle.types.specs.declared.ty.GenericArgs.{GenericArgs}
use Rattle.types.specs.declared.ty.MemoryMap.{MemoryMap}
use Rattle.types.specs.declared.ty.MemoryMap.TheVariants as memory
use Rattle.types.specs.declared.ty.TraitRef.{TraitRef}
use Rattle.types.specs.declared.ty.Ty.{Ty}
use Rattle.types.specs.declared.ty.Ty.TheVariants as type
use Rattle.types.specs.declared.ty.UnevaluatedConst.{UnevaluatedConst}
use Rattle.types.specs.declared.ty.ValueConst.{ValueConst}
use Rattle.check_instances.specs.Comparisons.{arg_cmp, bound_cmp, complex_cmp, const_cmp, map_cmp, unevaluated_cmp, value_cmp}
use Rattle.check_instances.specs.Variants.{Layer, arg_place, arg_variant, const_place, const_variant, map_place, map_variant, ty_place, ty_variant}

-- the values of each of the nine types that contain one another
abbrev Family : the_members → Type 0
Family = Values the_members the_sigs the_carrier

-- the order of each
abbrev cmp_at : (j : the_members) → Family j → Family j → Ordering
cmp_at = family

-- two values are compared part by part
is_at : (j : the_members) (a b : Family j) → cmp_at j a b ≡ the_step cmp_at j a b
is_at = compared_is the_members Family the_depth Ordering Equal the_step local

-- the place of a variant among those of its enum
rank : (Fss : List (List Field)) → Choice Fss → ℕ
rank [] c = absurd c
rank (Fs ∷ Fss) (inl x) = 0
rank (Fs ∷ Fss) (inr c) = suc (rank Fss c)

nat_cmp_suc : (m n : ℕ) → nat_cmp m n ≡ nat_cmp (suc m) (suc n)
nat_cmp_suc m n = grind (arith, nat_tests)

-- values of different variants are ordered by the places of these
by_place : (Fss : List (List Field)) (each : Each Ordering Fss) (c d : Choice Fss) → (rank Fss c ≡ rank Fss d → ⊥) → by Less Greater Fss each c d ≡ nat_cmp (rank Fss c) (rank Fss d)
unfolding rank
by_place [] each c d differ = absurd c
by_place (Fs ∷ Fss) each (inl x) (inl y) differ = absurd (differ refl)
by_place (Fs ∷ Fss) each (inl x) (inr d) differ = nat_cmp_is 0 (suc (rank Fss d)) Less (omega arith)
by_place (Fs ∷ Fss) each (inr c) (inl y) differ = nat_cmp_is (suc (rank Fss c)) 0 Greater (omega arith)
by_place (Fs ∷ Fss) each (inr c) (inr d) differ = by_place Fss each.1 c d (λ e. differ (ap suc e)) ∙ nat_cmp_suc (rank Fss c) (rank Fss d)

abbrev of_tys : Each Ordering TyParts.the_parts
of_tys = (
  λ x y. Equal,
  (
    λ x y. Equal,
    (
      λ x y. IntTyOrd.ghosts.cmp x.0 y.0,
      (
        λ x y. UintTyOrd.ghosts.cmp x.0 y.0,
        (
          λ x y. FloatTyOrd.ghosts.cmp x.0 y.0,
          (
            λ x y. Equal,
            (
              λ x y. Equal,
              (
                λ x y. slice_cmp (cmp_at member-Ty) x.0 y.0,
                (
                  λ x y. ordering_then (cmp_at member-Ty x.0 y.0) (cmp_at member-Const x.1.0 y.1.0),
                  (
                    λ x y. cmp_at member-Ty x.0 y.0,
                    (
                      λ x y. ordering_then (cmp_at member-Ty x.0 y.0) (MutabilityOrd.ghosts.cmp x.1.0 y.1.0),
                      (
                        λ x y. ordering_then (cmp_at member-Ty x.0 y.0) (MutabilityOrd.ghosts.cmp x.1.0 y.1.0),
                        (
                          λ x y. ordering_then (AdtIdOrd.ghosts.cmp x.0 y.0) (cmp_at member-GenericArgs x.1.0 y.1.0),
                          (
                            λ x y. ordering_then (CallableDefIdOrd.ghosts.cmp x.0 y.0) (cmp_at member-GenericArgs x.1.0 y.1.0),
                            (
                              λ x y. ordering_then (slice_cmp (cmp_at member-Ty) x.0 y.0) (cmp_at member-Ty x.1.0 y.1.0),
                              (
                                λ x y. ordering_then (InternedClosureIdOrd.ghosts.cmp x.0 y.0) (cmp_at member-GenericArgs x.1.0 y.1.0),
                                (
                                  λ x y. slice_cmp (cmp_at member-TraitRef) x.0 y.0,
                                  (
                                    λ x y. ordering_then (AliasIdOrd.ghosts.cmp x.0 y.0) (cmp_at member-GenericArgs x.1.0 y.1.0),
                                    (
                                      λ x y. ParamTyOrd.ghosts.cmp x.0 y.0,
                                      (λ x y. Equal, tt),
                                    ),
                                  ),
                                ),
                              ),
                            ),
                          ),
                        ),
                      ),
                    ),
                  ),
                ),
              ),
            ),
          ),
        ),
      ),
    ),
  ),
)

abbrev ty_layer_cmp : Layer Ty-F → Layer Ty-F → Ordering
ty_layer_cmp a b = by Less Greater TyParts.the_parts of_tys (split-Ty Family a) (split-Ty Family b)

ty_is : (a b : Ty) → ty_cmp a b ≡ ty_layer_cmp (out-Ty a) (out-Ty b)
ty_is a b = is_at member-Ty a b

ty_rank : (l : Layer Ty-F) → rank TyParts.the_parts (split-Ty Family l) ≡ ty_place l
unfolding rank
ty_rank one.Bool = refl
ty_rank one.Char = refl
ty_rank (one.Int kind) = refl
ty_rank (one.Uint kind) = refl
ty_rank (one.Float kind) = refl
ty_rank one.Str = refl
ty_rank one.Never = refl
ty_rank (one.Tuple fields) = refl
ty_rank (one.Array element len) = refl
ty_rank (one.Slice element) = refl
ty_rank (one.Ref to mutability) = refl
ty_rank (one.RawPtr to mutability) = refl
ty_rank (one.Adt id args) = refl
ty_rank (one.FnDef id args) = refl
ty_rank (one.FnPtr params ret) = refl
ty_rank (one.Closure id args) = refl
ty_rank (one.Dynamic bounds) = refl
ty_rank (one.Alias id args) = refl
ty_rank (one.Ty::Param param) = refl
ty_rank one.Ty::Error = refl

ty_rolled : (a b : Layer Ty-F) → ty_cmp (roll-Ty a) (roll-Ty b) ≡ ty_layer_cmp a b
ty_rolled a b = ty_is (roll-Ty a) (roll-Ty b) ∙ (λ i. ty_layer_cmp (out-roll-Ty a i) (out-roll-Ty b i))

-- types of different variants
pub tys_apart : (a b : Ty) → (ty_variant a ≡ ty_variant b → ⊥) → ty_cmp a b ≡ nat_cmp (ty_variant a) (ty_variant b)
tys_apart a b differ =
    let places = ty_rank (out-Ty a) in
    let others = ty_rank (out-Ty b) in
    ty_is a b
    ∙ by_place TyParts.the_parts of_tys (split-Ty Family (out-Ty a)) (split-Ty Family (out-Ty b)) (λ e. differ (sym places ∙ e ∙ others))
    ∙ (λ i. nat_cmp (places i) (others i))

-- types of one variant
pub tuples : (x y : List Ty) → ty_cmp (type.Tuple x) (type.Tuple y) ≡ slice_cmp ty_cmp x y
tuples x y = (λ i. ty_cmp (sym (type.rolls-Tuple x) i) (sym (type.rolls-Tuple y) i)) ∙ ty_rolled (one.Tuple x) (one.Tuple y)

pub arrays : (x y : Ty) (m n : Const) → ty_cmp (type.Array x m) (type.Array y n) ≡ ordering_then (ty_cmp x y) (const_cmp m n)
arrays x y m n = (λ i. ty_cmp (sym (type.rolls-Array x m) i) (sym (type.rolls-Array y n) i)) ∙ ty_rolled (one.Array x m) (one.Array y n)

pub slices : (x y : Ty) → ty_cmp (type.Slice x) (type.Slice y) ≡ ty_cmp x y
slices x y = (λ i. ty_cmp (sym (type.rolls-Slice x) i) (sym (type.rolls-Slice y) i)) ∙ ty_rolled (one.Slice x) (one.Slice y)

pub refs : (x y : Ty) (m n : Mutability) → ty_cmp (type.Ref x m) (type.Ref y n) ≡ ordering_then (ty_cmp x y) (MutabilityOrd.ghosts.cmp m n)
refs x y m n = (λ i. ty_cmp (sym (type.rolls-Ref x m) i) (sym (type.rolls-Ref y n) i)) ∙ ty_rolled (one.Ref x m) (one.Ref y n)

pub raw_ptrs : (x y : Ty) (m n : Mutability) → ty_cmp (type.RawPtr x m) (type.RawPtr y n) ≡ ordering_then (ty_cmp x y) (MutabilityOrd.ghosts.cmp m n)
raw_ptrs x y m n = (λ i. ty_cmp (sym (type.rolls-RawPtr x m) i) (sym (type.rolls-RawPtr y n) i)) ∙ ty_rolled (one.RawPtr x m) (one.RawPtr y n)

pub adts : (x y : AdtId) (m n : GenericArgs) → ty_cmp (type.Adt x m) (type.Adt y n) ≡ ordering_then (AdtIdOrd.ghosts.cmp x y) (args_cmp m n)
adts x y m n = (λ i. ty_cmp (sym (type.rolls-Adt x m) i) (sym (type.rolls-Adt y n) i)) ∙ ty_rolled (one.Adt x m) (one.Adt y n)

pub fn_defs : (x y : CallableDefId) (m n : GenericArgs) → ty_cmp (type.FnDef x m) (type.FnDef y n) ≡ ordering_then (CallableDefIdOrd.ghosts.cmp x y) (args_cmp m n)
fn_defs x y m n = (λ i. ty_cmp (sym (type.rolls-FnDef x m) i) (sym (type.rolls-FnDef y n) i)) ∙ ty_rolled (one.FnDef x m) (one.FnDef y n)

pub fn_ptrs : (x y : List Ty) (m n : Ty) → ty_cmp (type.FnPtr x m) (type.FnPtr y n) ≡ ordering_then (slice_cmp ty_cmp x y) (ty_cmp m n)
fn_ptrs x y m n = (λ i. ty_cmp (sym (type.rolls-FnPtr x m) i) (sym (type.rolls-FnPtr y n) i)) ∙ ty_rolled (one.FnPtr x m) (one.FnPtr y n)

pub closures : (x y : InternedClosureId) (m n : GenericArgs) → ty_cmp (type.Closure x m) (type.Closure y n) ≡ ordering_then (InternedClosureIdOrd.ghosts.cmp x y) (args_cmp m n)
closures x y m n = (λ i. ty_cmp (sym (type.rolls-Closure x m) i) (sym (type.rolls-Closure y n) i)) ∙ ty_rolled (one.Closure x m) (one.Closure y n)

pub dynamics : (x y : List TraitRef) → ty_cmp (type.Dynamic x) (type.Dynamic y) ≡ slice_cmp bound_cmp x y
dynamics x y = (λ i. ty_cmp (sym (type.rolls-Dynamic x) i) (sym (type.rolls-Dynamic y) i)) ∙ ty_rolled (one.Dynamic x) (one.Dynamic y)

-- generic arguments
abbrev of_args : Each Ordering GenericArgParts.the_parts
of_args = (λ x y. cmp_at member-Ty x.0 y.0, (λ x y. cmp_at member-Const x.0 y.0, tt))

abbrev args_by : Choice GenericArgParts.the_parts → Choice GenericArgParts.the_parts → Ordering
args_by = by Less Greater GenericArgParts.the_parts of_args

abbrev arg_layer_cmp : Layer GenericArg-F → Layer GenericArg-F → Ordering
arg_layer_cmp a b = args_by (split-GenericArg Family a) (split-GenericArg Family b)

arg_is : (a b : GenericArg) → arg_cmp a b ≡ arg_layer_cmp (out-GenericArg a) (out-GenericArg b)
arg_is a b = is_at member-GenericArg a b ∙ (λ i. args_by (parts_is-GenericArg a i) (parts_is-GenericArg b i))

arg_rank : (l : Layer GenericArg-F) → rank GenericArgParts.the_parts (split-GenericArg Family l) ≡ arg_place l
unfolding rank
arg_rank (one.Ty ty) = refl
arg_rank (one.Konst konst) = refl

arg_rolled : (a b : Layer GenericArg-F) → arg_cmp (roll-GenericArg a) (roll-GenericArg b) ≡ arg_layer_cmp a b
arg_rolled a b = arg_is (roll-GenericArg a) (roll-GenericArg b) ∙ (λ i. arg_layer_cmp (out-roll-GenericArg a i) (out-roll-GenericArg b i))

pub args_apart : (a b : GenericArg) → (arg_variant a ≡ arg_variant b → ⊥) → arg_cmp a b ≡ nat_cmp (arg_variant a) (arg_variant b)
args_apart a b differ =
    let places = arg_rank (out-GenericArg a) in
    let others = arg_rank (out-GenericArg b) in
    arg_is a b
    ∙ by_place GenericArgParts.the_parts of_args (split-GenericArg Family (out-GenericArg a)) (split-GenericArg Family (out-GenericArg b)) (λ e. differ (sym places ∙ e ∙ others))
    ∙ (λ i. nat_cmp (places i) (others i))

pub type_args : (x y : Ty) → arg_cmp (arg.Ty x) (arg.Ty y) ≡ ty_cmp x y
type_args x y = (λ i. arg_cmp (sym (arg.rolls-Ty x) i) (sym (arg.rolls-Ty y) i)) ∙ arg_rolled (one.Ty x) (one.Ty y)

pub const_args : (x y : Const) → arg_cmp (arg.Konst x) (arg.Konst y) ≡ const_cmp x y
const_args x y = (λ i. arg_cmp (sym (arg.rolls-Konst x) i) (sym (arg.rolls-Konst y) i)) ∙ arg_rolled (one.Konst x) (one.Konst y)

-- constants
abbrev of_consts : Each Ordering ConstParts.the_parts
of_consts = (λ x y. cmp_at member-ValueConst x.0 y.0, (λ x y. ParamConstOrd.ghosts.cmp x.0 y.0, (λ x y. cmp_at member-UnevaluatedConst x.0 y.0, (λ x y. Equal, tt))))

abbrev const_layer_cmp : Layer Const-F → Layer Const-F → Ordering
const_layer_cmp a b = by Less Greater ConstParts.the_parts of_consts (split-Const Family a) (split-Const Family b)

const_is : (a b : Const) → const_cmp a b ≡ const_layer_cmp (out-Const a) (out-Const b)
const_is a b = is_at member-Const a b

const_rank : (l : Layer Const-F) → rank ConstParts.the_parts (split-Const Family l) ≡ const_place l
unfolding rank
const_rank (one.Value value) = refl
const_rank (one.Const::Param param) = refl
const_rank (one.Unevaluated named) = refl
const_rank one.Const::Error = refl

const_rolled : (a b : Layer Const-F) → const_cmp (roll-Const a) (roll-Const b) ≡ const_layer_cmp a b
const_rolled a b = const_is (roll-Const a) (roll-Const b) ∙ (λ i. const_layer_cmp (out-roll-Const a i) (out-roll-Const b i))

pub consts_apart : (a b : Const) → (const_variant a ≡ const_variant b → ⊥) → const_cmp a b ≡ nat_cmp (const_variant a) (const_variant b)
consts_apart a b differ =
    let places = const_rank (out-Const a) in
    let others = const_rank (out-Const b) in
    const_is a b
    ∙ by_place ConstParts.the_parts of_consts (split-Const Family (out-Const a)) (split-Const Family (out-Const b)) (λ e. differ (sym places ∙ e ∙ others))
    ∙ (λ i. nat_cmp (places i) (others i))

pub value_consts : (x y : ValueConst) → const_cmp (constant.Value x) (constant.Value y) ≡ value_cmp x y
value_consts x y = (λ i. const_cmp (sym (constant.rolls-Value x) i) (sym (constant.rolls-Value y) i)) ∙ const_rolled (one.Value x) (one.Value y)

pub unevaluated_consts : (x y : UnevaluatedConst) → const_cmp (constant.Unevaluated x) (constant.Unevaluated y) ≡ unevaluated_cmp x y
unevaluated_consts x y = (λ i. const_cmp (sym (constant.rolls-Unevaluated x) i) (sym (constant.rolls-Unevaluated y) i)) ∙ const_rolled (one.Unevaluated x) (one.Unevaluated y)

-- memory maps
abbrev of_maps : Each Ordering MemoryMapParts.the_parts
of_maps = (λ x y. Equal, (λ x y. BytesOrd.ghosts.cmp x.0 y.0, (λ x y. cmp_at member-ComplexMemoryMap x.0 y.0, tt)))

abbrev map_layer_cmp : Layer MemoryMap-F → Layer MemoryMap-F → Ordering
map_layer_cmp a b = by Less Greater MemoryMapParts.the_parts of_maps (split-MemoryMap Family a) (split-MemoryMap Family b)

map_is : (a b : MemoryMap) → map_cmp a b ≡ map_layer_cmp (out-MemoryMap a) (out-MemoryMap b)
map_is a b = is_at member-MemoryMap a b

map_rank : (l : Layer MemoryMap-F) → rank MemoryMapParts.the_parts (split-MemoryMap Family l) ≡ map_place l
unfolding rank
map_rank one.Empty = refl
map_rank (one.Simple bytes) = refl
map_rank (one.Complex complex) = refl

map_rolled : (a b : Layer MemoryMap-F) → map_cmp (roll-MemoryMap a) (roll-MemoryMap b) ≡ map_layer_cmp a b
map_rolled a b = map_is (roll-MemoryMap a) (roll-MemoryMap b) ∙ (λ i. map_layer_cmp (out-roll-MemoryMap a i) (out-roll-MemoryMap b i))

pub maps_apart : (a b : MemoryMap) → (map_variant a ≡ map_variant b → ⊥) → map_cmp a b ≡ nat_cmp (map_variant a) (map_variant b)
maps_apart a b differ =
    let places = map_rank (out-MemoryMap a) in
    let others = map_rank (out-MemoryMap b) in
    map_is a b
    ∙ by_place MemoryMapParts.the_parts of_maps (split-MemoryMap Family (out-MemoryMap a)) (split-MemoryMap Family (out-MemoryMap b)) (λ e. differ (sym places ∙ e ∙ others))
    ∙ (λ i. nat_cmp (places i) (others i))

pub complex_maps : (x y : ComplexMemoryMap) → map_cmp (memory.Complex x) (memory.Complex y) ≡ complex_cmp x y
complex_maps x y = (λ i. map_cmp (sym (memory.rolls-Complex x) i) (sym (memory.rolls-Complex y) i)) ∙ map_rolled (one.Complex x) (one.Complex y)

-- what is made of fields
pub args_of : (x y : GenericArgs) → args_cmp x y ≡ slice_cmp arg_cmp x.0 y.0
args_of x y = is_at member-GenericArgs x y

pub bounds_of : (x y : TraitRef) → bound_cmp x y ≡ ordering_then (TraitIdOrd.ghosts.cmp x.def y.def) (args_cmp x.args y.args)
bounds_of x y = is_at member-TraitRef x y

pub unevaluated_of : (x y : UnevaluatedConst) → unevaluated_cmp x y ≡ ordering_then (GeneralConstIdOrd.ghosts.cmp x.def y.def) (args_cmp x.args y.args)
unevaluated_of x y = is_at member-UnevaluatedConst x y

pub values_of : (x y : ValueConst) → value_cmp x y ≡ ordering_then (ty_cmp x.ty y.ty) (ordering_then (BytesOrd.ghosts.cmp x.memory y.memory) (map_cmp x.memory_map y.memory_map))
values_of x y = is_at member-ValueConst x y

-- the bytes at addresses
abbrev pub entries_cmp : List (ℕ × Bytes) → List (ℕ × Bytes) → Ordering
entries_cmp = slice_cmp (λ p q. ordering_then (nat_cmp p.0 q.0) (BytesOrd.ghosts.cmp p.1 q.1))

pub complex_of : (x y : ComplexMemoryMap) → complex_cmp x y ≡ ordering_then (entries_cmp x.memory y.memory) (slice_cmp ty_cmp x.vtable y.vtable)
complex_of x y = is_at member-ComplexMemoryMap x y

-- the places of variants
pub tuple_variant : (x : List Ty) → ty_variant (type.Tuple x) ≡ 7
tuple_variant x = ap ty_place (ap out-Ty (sym (type.rolls-Tuple x)) ∙ out-roll-Ty (one.Tuple x))

pub array_variant : (x : Ty) (m : Const) → ty_variant (type.Array x m) ≡ 8
array_variant x m = ap ty_place (ap out-Ty (sym (type.rolls-Array x m)) ∙ out-roll-Ty (one.Array x m))

pub slice_variant : (x : Ty) → ty_variant (type.Slice x) ≡ 9
slice_variant x = ap ty_place (ap out-Ty (sym (type.rolls-Slice x)) ∙ out-roll-Ty (one.Slice x))

pub ref_variant : (x : Ty) (m : Mutability) → ty_variant (type.Ref x m) ≡ 10
ref_variant x m = ap ty_place (ap out-Ty (sym (type.rolls-Ref x m)) ∙ out-roll-Ty (one.Ref x m))

pub rawptr_variant : (x : Ty) (m : Mutability) → ty_variant (type.RawPtr x m) ≡ 11
rawptr_variant x m = ap ty_place (ap out-Ty (sym (type.rolls-RawPtr x m)) ∙ out-roll-Ty (one.RawPtr x m))

pub adt_variant : (x : AdtId) (m : GenericArgs) → ty_variant (type.Adt x m) ≡ 12
adt_variant x m = ap ty_place (ap out-Ty (sym (type.rolls-Adt x m)) ∙ out-roll-Ty (one.Adt x m))

pub fndef_variant : (x : CallableDefId) (m : GenericArgs) → ty_variant (type.FnDef x m) ≡ 13
fndef_variant x m = ap ty_place (ap out-Ty (sym (type.rolls-FnDef x m)) ∙ out-roll-Ty (one.FnDef x m))

pub fnptr_variant : (x : List Ty) (m : Ty) → ty_variant (type.FnPtr x m) ≡ 14
fnptr_variant x m = ap ty_place (ap out-Ty (sym (type.rolls-FnPtr x m)) ∙ out-roll-Ty (one.FnPtr x m))

pub closure_variant : (x : InternedClosureId) (m : GenericArgs) → ty_variant (type.Closure x m) ≡ 15
closure_variant x m = ap ty_place (ap out-Ty (sym (type.rolls-Closure x m)) ∙ out-roll-Ty (one.Closure x m))

pub dynamic_variant : (x : List TraitRef) → ty_variant (type.Dynamic x) ≡ 16
dynamic_variant x = ap ty_place (ap out-Ty (sym (type.rolls-Dynamic x)) ∙ out-roll-Ty (one.Dynamic x))

pub type_arg_variant : (x : Ty) → arg_variant (arg.Ty x) ≡ 0
type_arg_variant x = ap arg_place (ap out-GenericArg (sym (arg.rolls-Ty x)) ∙ out-roll-GenericArg (one.Ty x))

pub const_arg_variant : (x : Const) → arg_variant (arg.Konst x) ≡ 1
const_arg_variant x = ap arg_place (ap out-GenericArg (sym (arg.rolls-Konst x)) ∙ out-roll-GenericArg (one.Konst x))

pub value_variant : (x : ValueConst) → const_variant (constant.Value x) ≡ 0
value_variant x = ap const_place (ap out-Const (sym (constant.rolls-Value x)) ∙ out-roll-Const (one.Value x))

pub unevaluated_variant : (x : UnevaluatedConst) → const_variant (constant.Unevaluated x) ≡ 2
unevaluated_variant x = ap const_place (ap out-Const (sym (constant.rolls-Unevaluated x)) ∙ out-roll-Const (one.Unevaluated x))

pub complex_variant : (x : ComplexMemoryMap) → map_variant (memory.Complex x) ≡ 2
complex_variant x = ap map_place (ap out-MemoryMap (sym (memory.rolls-Complex x)) ∙ out-roll-MemoryMap (one.Complex x))

-- types of one variant, and types that are of another
module _ (key : Ty) where
  tuple_place : (l : Layer Ty-F) → ((x : List Ty) → l ≡ one.Tuple x → ⊥) → ty_place l ≡ 7 → ⊥
  tuple_place (one.Tuple x) differ e = differ x refl
  tuple_place _ differ e = omega (arith, e)

  pub no_tuple : ((x : List Ty) → key ≡ type.Tuple x → ⊥) → ty_variant key ≡ 7 → ⊥
  no_tuple differ = tuple_place (out-Ty key) (λ x e. differ x (sym (roll-out-Ty key) ∙ ap roll-Ty e ∙ type.rolls-Tuple x))

  array_place : (l : Layer Ty-F) → ((x : Ty) (m : Const) → l ≡ one.Array x m → ⊥) → ty_place l ≡ 8 → ⊥
  array_place (one.Array x m) differ e = differ x m refl
  array_place _ differ e = omega (arith, e)

  pub no_array : ((x : Ty) (m : Const) → key ≡ type.Array x m → ⊥) → ty_variant key ≡ 8 → ⊥
  no_array differ = array_place (out-Ty key) (λ x m e. differ x m (sym (roll-out-Ty key) ∙ ap roll-Ty e ∙ type.rolls-Array x m))

  slice_place : (l : Layer Ty-F) → ((x : Ty) → l ≡ one.Slice x → ⊥) → ty_place l ≡ 9 → ⊥
  slice_place (one.Slice x) differ e = differ x refl
  slice_place _ differ e = omega (arith, e)

  pub no_slice : ((x : Ty) → key ≡ type.Slice x → ⊥) → ty_variant key ≡ 9 → ⊥
  no_slice differ = slice_place (out-Ty key) (λ x e. differ x (sym (roll-out-Ty key) ∙ ap roll-Ty e ∙ type.rolls-Slice x))

  ref_place : (l : Layer Ty-F) → ((x : Ty) (m : Mutability) → l ≡ one.Ref x m → ⊥) → ty_place l ≡ 10 → ⊥
  ref_place (one.Ref x m) differ e = differ x m refl
  ref_place _ differ e = omega (arith, e)

  pub no_ref : ((x : Ty) (m : Mutability) → key ≡ type.Ref x m → ⊥) → ty_variant key ≡ 10 → ⊥
  no_ref differ = ref_place (out-Ty key) (λ x m e. differ x m (sym (roll-out-Ty key) ∙ ap roll-Ty e ∙ type.rolls-Ref x m))

  rawptr_place : (l : Layer Ty-F) → ((x : Ty) (m : Mutability) → l ≡ one.RawPtr x m → ⊥) → ty_place l ≡ 11 → ⊥
  rawptr_place (one.RawPtr x m) differ e = differ x m refl
  rawptr_place _ differ e = omega (arith, e)

  pub no_rawptr : ((x : Ty) (m : Mutability) → key ≡ type.RawPtr x m → ⊥) → ty_variant key ≡ 11 → ⊥
  no_rawptr differ = rawptr_place (out-Ty key) (λ x m e. differ x m (sym (roll-out-Ty key) ∙ ap roll-Ty e ∙ type.rolls-RawPtr x m))

  adt_place : (l : Layer Ty-F) → ((x : AdtId) (m : GenericArgs) → l ≡ one.Adt x m → ⊥) → ty_place l ≡ 12 → ⊥
  adt_place (one.Adt x m) differ e = differ x m refl
  adt_place _ differ e = omega (arith, e)

  pub no_adt : ((x : AdtId) (m : GenericArgs) → key ≡ type.Adt x m → ⊥) → ty_variant key ≡ 12 → ⊥
  no_adt differ = adt_place (out-Ty key) (λ x m e. differ x m (sym (roll-out-Ty key) ∙ ap roll-Ty e ∙ type.rolls-Adt x m))

  fndef_place : (l : Layer Ty-F) → ((x : CallableDefId) (m : GenericArgs) → l ≡ one.FnDef x m → ⊥) → ty_place l ≡ 13 → ⊥
  fndef_place (one.FnDef x m) differ e = differ x m refl
  fndef_place _ differ e = omega (arith, e)

  pub no_fndef : ((x : CallableDefId) (m : GenericArgs) → key ≡ type.FnDef x m → ⊥) → ty_variant key ≡ 13 → ⊥
  no_fndef differ = fndef_place (out-Ty key) (λ x m e. differ x m (sym (roll-out-Ty key) ∙ ap roll-Ty e ∙ type.rolls-FnDef x m))

  fnptr_place : (l : Layer Ty-F) → ((x : List Ty) (m : Ty) → l ≡ one.FnPtr x m → ⊥) → ty_place l ≡ 14 → ⊥
  fnptr_place (one.FnPtr x m) differ e = differ x m refl
  fnptr_place _ differ e = omega (arith, e)

  pub no_fnptr : ((x : List Ty) (m : Ty) → key ≡ type.FnPtr x m → ⊥) → ty_variant key ≡ 14 → ⊥
  no_fnptr differ = fnptr_place (out-Ty key) (λ x m e. differ x m (sym (roll-out-Ty key) ∙ ap roll-Ty e ∙ type.rolls-FnPtr x m))

  closure_place : (l : Layer Ty-F) → ((x : InternedClosureId) (m : GenericArgs) → l ≡ one.Closure x m → ⊥) → ty_place l ≡ 15 → ⊥
  closure_place (one.Closure x m) differ e = differ x m refl
  closure_place _ differ e = omega (arith, e)

  pub no_closure : ((x : InternedClosureId) (m : GenericArgs) → key ≡ type.Closure x m → ⊥) → ty_variant key ≡ 15 → ⊥
  no_closure differ = closure_place (out-Ty key) (λ x m e. differ x m (sym (roll-out-Ty key) ∙ ap roll-Ty e ∙ type.rolls-Closure x m))

  dynamic_place : (l : Layer Ty-F) → ((x : List TraitRef) → l ≡ one.Dynamic x → ⊥) → ty_place l ≡ 16 → ⊥
  dynamic_place (one.Dynamic x) differ e = differ x refl
  dynamic_place _ differ e = omega (arith, e)

  pub no_dynamic : ((x : List TraitRef) → key ≡ type.Dynamic x → ⊥) → ty_variant key ≡ 16 → ⊥
  no_dynamic differ = dynamic_place (out-Ty key) (λ x e. differ x (sym (roll-out-Ty key) ∙ ap roll-Ty e ∙ type.rolls-Dynamic x))

module _ (key : GenericArg) where
  type_arg_place : (l : Layer GenericArg-F) → ((x : Ty) → l ≡ one.Ty x → ⊥) → arg_place l ≡ 0 → ⊥
  type_arg_place (one.Ty x) differ e = differ x refl
  type_arg_place _ differ e = omega (arith, e)

  pub no_type_arg : ((x : Ty) → key ≡ arg.Ty x → ⊥) → arg_variant key ≡ 0 → ⊥
  no_type_arg differ = type_arg_place (out-GenericArg key) (λ x e. differ x (sym (roll-out-GenericArg key) ∙ ap roll-GenericArg e ∙ arg.rolls-Ty x))

  const_arg_place : (l : Layer GenericArg-F) → ((x : Const) → l ≡ one.Konst x → ⊥) → arg_place l ≡ 1 → ⊥
  const_arg_place (one.Konst x) differ e = differ x refl
  const_arg_place _ differ e = omega (arith, e)

  pub no_const_arg : ((x : Const) → key ≡ arg.Konst x → ⊥) → arg_variant key ≡ 1 → ⊥
  no_const_arg differ = const_arg_place (out-GenericArg key) (λ x e. differ x (sym (roll-out-GenericArg key) ∙ ap roll-GenericArg e ∙ arg.rolls-Konst x))

module _ (key : Const) where
  value_place : (l : Layer Const-F) → ((x : ValueConst) → l ≡ one.Value x → ⊥) → const_place l ≡ 0 → ⊥
  value_place (one.Value x) differ e = differ x refl
  value_place _ differ e = omega (arith, e)

  pub no_value : ((x : ValueConst) → key ≡ constant.Value x → ⊥) → const_variant key ≡ 0 → ⊥
  no_value differ = value_place (out-Const key) (λ x e. differ x (sym (roll-out-Const key) ∙ ap roll-Const e ∙ constant.rolls-Value x))

  unevaluated_place : (l : Layer Const-F) → ((x : UnevaluatedConst) → l ≡ one.Unevaluated x → ⊥) → const_place l ≡ 2 → ⊥
  unevaluated_place (one.Unevaluated x) differ e = differ x refl
  unevaluated_place _ differ e = omega (arith, e)

  pub no_unevaluated : ((x : UnevaluatedConst) → key ≡ constant.Unevaluated x → ⊥) → const_variant key ≡ 2 → ⊥
  no_unevaluated differ = unevaluated_place (out-Const key) (λ x e. differ x (sym (roll-out-Const key) ∙ ap roll-Const e ∙ constant.rolls-Unevaluated x))

module _ (key : MemoryMap) where
  complex_place : (l : Layer MemoryMap-F) → ((x : ComplexMemoryMap) → l ≡ one.Complex x → ⊥) → map_place l ≡ 2 → ⊥
  complex_place (one.Complex x) differ e = differ x refl
  complex_place _ differ e = omega (arith, e)

  pub no_complex : ((x : ComplexMemoryMap) → key ≡ memory.Complex x → ⊥) → map_variant key ≡ 2 → ⊥
  no_complex differ = complex_place (out-MemoryMap key) (λ x e. differ x (sym (roll-out-MemoryMap key) ∙ ap roll-MemoryMap e ∙ memory.rolls-Complex x))
