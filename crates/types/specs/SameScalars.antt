-- `==` of what types and constants are made of finds only equal values equal: names of items, kinds of numbers, bytes and lists.
use mathlib.Core.Bool.{true≢false}
use Rattle.std.proofs.Common.{sym, ap}
use Rattle.std.specs.Prelude.{◌≡◌, ◌==◌, ℕ, Bool, true, false, ◌&&◌, List, [], ◌∷◌, refl}
use Rattle.std.specs.Cmp.{unsigned_Decides}
use Rattle.std.specs.Cmp.Lexicographic.{pointwise, bytes_decides}
use Rattle.types.specs.contracts.bytes.BytesPartialEq.TheImpl as BytesPartialEq
use Rattle.types.specs.contracts.ids.AdtIdPartialEq.TheImpl as AdtIdPartialEq
use Rattle.types.specs.contracts.ids.AliasIdPartialEq.TheImpl as AliasIdPartialEq
use Rattle.types.specs.contracts.ids.CallableDefIdPartialEq.TheImpl as CallableDefIdPartialEq
use Rattle.types.specs.contracts.ids.ConstIdPartialEq.TheImpl as ConstIdPartialEq
use Rattle.types.specs.contracts.ids.ConstParamIdPartialEq.TheImpl as ConstParamIdPartialEq
use Rattle.types.specs.contracts.ids.EnumIdPartialEq.TheImpl as EnumIdPartialEq
use Rattle.types.specs.contracts.ids.EnumVariantIdPartialEq.TheImpl as EnumVariantIdPartialEq
use Rattle.types.specs.contracts.ids.FunctionIdPartialEq.TheImpl as FunctionIdPartialEq
use Rattle.types.specs.contracts.ids.GeneralConstIdPartialEq.TheImpl as GeneralConstIdPartialEq
use Rattle.types.specs.contracts.ids.InternedClosureIdPartialEq.TheImpl as InternedClosureIdPartialEq
use Rattle.types.specs.contracts.ids.StaticIdPartialEq.TheImpl as StaticIdPartialEq
use Rattle.types.specs.contracts.ids.StructIdPartialEq.TheImpl as StructIdPartialEq
use Rattle.types.specs.contracts.ids.TraitIdPartialEq.TheImpl as TraitIdPartialEq
use Rattle.types.specs.contracts.ids.TypeParamIdPartialEq.TheImpl as TypeParamIdPartialEq
use Rattle.types.specs.contracts.ids.UnionIdPartialEq.TheImpl as UnionIdPartialEq
use Rattle.types.specs.contracts.scalars.FloatTyPartialEq.TheImpl as FloatTyPartialEq
use Rattle.types.specs.contracts.scalars.IntTyPartialEq.TheImpl as IntTyPartialEq
use Rattle.types.specs.contracts.scalars.MutabilityPartialEq.TheImpl as MutabilityPartialEq
use Rattle.types.specs.contracts.scalars.UintTyPartialEq.TheImpl as UintTyPartialEq
use Rattle.types.specs.contracts.ty.ParamConstPartialEq.TheImpl as ParamConstPartialEq
use Rattle.types.specs.contracts.ty.ParamTyPartialEq.TheImpl as ParamTyPartialEq
use Rattle.types.specs.declared.bytes.Bytes.{Bytes}
use Rattle.types.specs.declared.ids.AdtId.TheVariants as adt
use Rattle.types.specs.declared.ids.AdtId.{AdtId}
use Rattle.types.specs.declared.ids.AliasId.{AliasId}
use Rattle.types.specs.declared.ids.CallableDefId.TheVariants as callable_def
use Rattle.types.specs.declared.ids.CallableDefId.{CallableDefId}
use Rattle.types.specs.declared.ids.ConstId.{ConstId}
use Rattle.types.specs.declared.ids.ConstParamId.{ConstParamId}
use Rattle.types.specs.declared.ids.EnumId.{EnumId}
use Rattle.types.specs.declared.ids.EnumVariantId.{EnumVariantId}
use Rattle.types.specs.declared.ids.FunctionId.{FunctionId}
use Rattle.types.specs.declared.ids.GeneralConstId.TheVariants as general_const
use Rattle.types.specs.declared.ids.GeneralConstId.{GeneralConstId}
use Rattle.types.specs.declared.ids.InternedClosureId.{InternedClosureId}
use Rattle.types.specs.declared.ids.StaticId.{StaticId}
use Rattle.types.specs.declared.ids.StructId.{StructId}
use Rattle.types.specs.declared.ids.TraitId.{TraitId}
use Rattle.types.specs.declared.ids.TypeParamId.{TypeParamId}
use Rattle.types.specs.declared.ids.UnionId.{UnionId}
use Rattle.types.specs.declared.scalars.FloatTy.TheVariants.{F16, F32, F64, F128}
use Rattle.types.specs.declared.scalars.FloatTy.{FloatTy}
use Rattle.types.specs.declared.scalars.IntTy.TheVariants.{I8, I16, I32, I64, I128, Isize}
use Rattle.types.specs.declared.scalars.IntTy.{IntTy}
use Rattle.types.specs.declared.scalars.Mutability.TheVariants.{Not, Mut}
use Rattle.types.specs.declared.scalars.Mutability.{Mutability}
use Rattle.types.specs.declared.scalars.UintTy.TheVariants.{U8, U16, U32, U64, U128, Usize}
use Rattle.types.specs.declared.scalars.UintTy.{UintTy}
use Rattle.types.specs.declared.ty.ParamConst.{ParamConst}
use Rattle.types.specs.declared.ty.ParamTy.{ParamTy}

-- two variants are not found equal
pub differ : {A : Type 0} → false ≡ true → A
differ h = absurd (true≢false (sym h))

pub both : (a b : Bool) → (a && b) ≡ true → (a ≡ true) × (b ≡ true)
both true b h = (refl, h)
both false b h = differ h

-- lists whose elements are found equal pair by pair are one list, where the elements are
pub items_same : {A : Type 0} (E : A → A → Bool) → ((a b : A) → E a b ≡ true → a ≡ b) → (xs ys : List A) → pointwise E xs ys ≡ true → xs ≡ ys
items_same E same [] [] h = refl
items_same E same [] (y ∷ ys) h = differ h
items_same E same (x ∷ xs) [] h = differ h
items_same E same (x ∷ xs) (y ∷ ys) h =
    let p = both (E x y) (pointwise E xs ys) h in
    λ i. same x y p.0 i ∷ items_same E same xs ys p.1 i

pub bytes_same : (a b : Bytes) → BytesPartialEq.ghosts.eq a b ≡ true → a ≡ b
bytes_same a b = (bytes_decides a b).0

-- two entries of a memory, which are an address and the bytes there
abbrev pub entry_eq : ℕ × Bytes → ℕ × Bytes → Bool
entry_eq p q = (p.0 == q.0) && BytesPartialEq.ghosts.eq p.1 q.1

pub entry_same : (p q : ℕ × Bytes) → entry_eq p q ≡ true → p ≡ q
entry_same p q h =
    let e = both (p.0 == q.0) (BytesPartialEq.ghosts.eq p.1 q.1) h in
    λ i. ((unsigned_Decides p.0 q.0).0 e.0 i, bytes_same p.1 q.1 e.1 i)

pub int_same : (a b : IntTy) → IntTyPartialEq.ghosts.eq a b ≡ true → a ≡ b
int_same I8 I8 h = refl
int_same I8 _ h = differ h
int_same I16 I16 h = refl
int_same I16 _ h = differ h
int_same I32 I32 h = refl
int_same I32 _ h = differ h
int_same I64 I64 h = refl
int_same I64 _ h = differ h
int_same I128 I128 h = refl
int_same I128 _ h = differ h
int_same Isize Isize h = refl
int_same Isize _ h = differ h

pub uint_same : (a b : UintTy) → UintTyPartialEq.ghosts.eq a b ≡ true → a ≡ b
uint_same U8 U8 h = refl
uint_same U8 _ h = differ h
uint_same U16 U16 h = refl
uint_same U16 _ h = differ h
uint_same U32 U32 h = refl
uint_same U32 _ h = differ h
uint_same U64 U64 h = refl
uint_same U64 _ h = differ h
uint_same U128 U128 h = refl
uint_same U128 _ h = differ h
uint_same Usize Usize h = refl
uint_same Usize _ h = differ h

pub float_same : (a b : FloatTy) → FloatTyPartialEq.ghosts.eq a b ≡ true → a ≡ b
float_same F16 F16 h = refl
float_same F16 _ h = differ h
float_same F32 F32 h = refl
float_same F32 _ h = differ h
float_same F64 F64 h = refl
float_same F64 _ h = differ h
float_same F128 F128 h = refl
float_same F128 _ h = differ h

pub mutability_same : (a b : Mutability) → MutabilityPartialEq.ghosts.eq a b ≡ true → a ≡ b
mutability_same Not Not h = refl
mutability_same Not _ h = differ h
mutability_same Mut Mut h = refl
mutability_same Mut _ h = differ h

pub alias_same : (a b : AliasId) → AliasIdPartialEq.ghosts.eq a b ≡ true → a ≡ b
alias_same a b h i = record { 0 = (unsigned_Decides a.0 b.0).0 h i }

pub const_same : (a b : ConstId) → ConstIdPartialEq.ghosts.eq a b ≡ true → a ≡ b
const_same a b h i = record { 0 = (unsigned_Decides a.0 b.0).0 h i }

pub const_param_same : (a b : ConstParamId) → ConstParamIdPartialEq.ghosts.eq a b ≡ true → a ≡ b
const_param_same a b h i = record { 0 = (unsigned_Decides a.0 b.0).0 h i }

pub enum_same : (a b : EnumId) → EnumIdPartialEq.ghosts.eq a b ≡ true → a ≡ b
enum_same a b h i = record { 0 = (unsigned_Decides a.0 b.0).0 h i }

pub enum_variant_same : (a b : EnumVariantId) → EnumVariantIdPartialEq.ghosts.eq a b ≡ true → a ≡ b
enum_variant_same a b h i = record { 0 = (unsigned_Decides a.0 b.0).0 h i }

pub function_same : (a b : FunctionId) → FunctionIdPartialEq.ghosts.eq a b ≡ true → a ≡ b
function_same a b h i = record { 0 = (unsigned_Decides a.0 b.0).0 h i }

pub interned_closure_same : (a b : InternedClosureId) → InternedClosureIdPartialEq.ghosts.eq a b ≡ true → a ≡ b
interned_closure_same a b h i = record { 0 = (unsigned_Decides a.0 b.0).0 h i }

pub static_same : (a b : StaticId) → StaticIdPartialEq.ghosts.eq a b ≡ true → a ≡ b
static_same a b h i = record { 0 = (unsigned_Decides a.0 b.0).0 h i }

pub struct_same : (a b : StructId) → StructIdPartialEq.ghosts.eq a b ≡ true → a ≡ b
struct_same a b h i = record { 0 = (unsigned_Decides a.0 b.0).0 h i }

pub trait_same : (a b : TraitId) → TraitIdPartialEq.ghosts.eq a b ≡ true → a ≡ b
trait_same a b h i = record { 0 = (unsigned_Decides a.0 b.0).0 h i }

pub type_param_same : (a b : TypeParamId) → TypeParamIdPartialEq.ghosts.eq a b ≡ true → a ≡ b
type_param_same a b h i = record { 0 = (unsigned_Decides a.0 b.0).0 h i }

pub union_same : (a b : UnionId) → UnionIdPartialEq.ghosts.eq a b ≡ true → a ≡ b
union_same a b h i = record { 0 = (unsigned_Decides a.0 b.0).0 h i }

pub adt_same : (a b : AdtId) → AdtIdPartialEq.ghosts.eq a b ≡ true → a ≡ b
adt_same (adt.StructId a) (adt.StructId b) h = ap adt.StructId (struct_same a b h)
adt_same (adt.StructId a) _ h = differ h
adt_same (adt.UnionId a) (adt.UnionId b) h = ap adt.UnionId (union_same a b h)
adt_same (adt.UnionId a) _ h = differ h
adt_same (adt.EnumId a) (adt.EnumId b) h = ap adt.EnumId (enum_same a b h)
adt_same (adt.EnumId a) _ h = differ h

pub callable_def_same : (a b : CallableDefId) → CallableDefIdPartialEq.ghosts.eq a b ≡ true → a ≡ b
callable_def_same (callable_def.FunctionId a) (callable_def.FunctionId b) h = ap callable_def.FunctionId (function_same a b h)
callable_def_same (callable_def.FunctionId a) _ h = differ h
callable_def_same (callable_def.StructId a) (callable_def.StructId b) h = ap callable_def.StructId (struct_same a b h)
callable_def_same (callable_def.StructId a) _ h = differ h
callable_def_same (callable_def.EnumVariantId a) (callable_def.EnumVariantId b) h = ap callable_def.EnumVariantId (enum_variant_same a b h)
callable_def_same (callable_def.EnumVariantId a) _ h = differ h

pub general_const_same : (a b : GeneralConstId) → GeneralConstIdPartialEq.ghosts.eq a b ≡ true → a ≡ b
general_const_same (general_const.ConstId a) (general_const.ConstId b) h = ap general_const.ConstId (const_same a b h)
general_const_same (general_const.ConstId a) _ h = differ h
general_const_same (general_const.StaticId a) (general_const.StaticId b) h = ap general_const.StaticId (static_same a b h)
general_const_same (general_const.StaticId a) _ h = differ h

pub param_ty_same : (a b : ParamTy) → ParamTyPartialEq.ghosts.eq a b ≡ true → a ≡ b
param_ty_same a b h =
    let p = both (TypeParamIdPartialEq.ghosts.eq a.id b.id) (a.index == b.index) h in
    λ i. record { id = type_param_same a.id b.id p.0 i; index = (unsigned_Decides a.index b.index).0 p.1 i }

pub param_const_same : (a b : ParamConst) → ParamConstPartialEq.ghosts.eq a b ≡ true → a ≡ b
param_const_same a b h =
    let p = both (ConstParamIdPartialEq.ghosts.eq a.id b.id) (a.index == b.index) h in
    λ i. record { id = const_param_same a.id b.id p.0 i; index = (unsigned_Decides a.index b.index).0 p.1 i }
