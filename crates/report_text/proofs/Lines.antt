-- The lines of vtable ids, one after another.
use Rattle.std.proofs.Common.{◌≡◌, ℕ, ◌+◌, ◌<◌, List, [], ◌∷◌, ◌++◌, length, get_or, take, length-take, sym, ◌∙◌, ap, append_assoc, arith}
use Rattle.std.proofs.lemmas.List.{append-nil, take_more}
use Rattle.types.specs.declared.ty.Ty.{Ty}
use Rattle.world.specs.declared.database.HirDatabase.{HirDatabase}
use Rattle.report_text.specs.Memory.{table_line, table_lines}

tables-append : (world : HirDatabase) (id : ℕ) (tys : List Ty) (ty : Ty) →
    table_lines world id (tys ++ ty ∷ []) ≡ table_lines world id tys ++ table_line world (id + length tys) ty
tables-append world id [] ty =
    let none : id ≡ id + length {A = Ty} [] = omega arith in
    append-nil (table_line world id ty) ∙ ap (λ (n : ℕ). table_line world n ty) none
tables-append world id (first ∷ tys) ty =
    let place : id + 1 + length tys ≡ id + length (first ∷ tys) = omega arith in
    ap (λ (rest : List ℕ). table_line world id first ++ rest) (tables-append world (id + 1) tys ty)
    ∙ sym (append_assoc (table_line world id first) (table_lines world (id + 1) tys) (table_line world (id + 1 + length tys) ty))
    ∙ ap (λ (n : ℕ). table_line world id first ++ table_lines world (id + 1) tys ++ table_line world n ty) place

-- the lines with one more vtable id
pub tables_more : (world : HirDatabase) (tys : List Ty) (i id : ℕ) (ty : Ty) (out out' : List ℕ) →
    i < length tys → ty ≡ get_or tys i ty → id ≡ 1000 + i → out ≡ table_lines world 1000 (take i tys) →
    out' ≡ out ++ table_line world id ty → out' ≡ table_lines world 1000 (take (i + 1) tys)
tables_more world tys i id ty out out' within is place so_far more =
    let at : id ≡ 1000 + length (take i tys) = omega (arith, length-take i tys) in
    let whole : take (i + 1) tys ≡ take i tys ++ ty ∷ [] = take_more tys i ty within ∙ ap (λ (t : Ty). take i tys ++ t ∷ []) (sym is) in
    more ∙ ap (λ (text : List ℕ). text ++ table_line world id ty) so_far
    ∙ ap (λ (n : ℕ). table_lines world 1000 (take i tys) ++ table_line world n ty) at
    ∙ sym (tables-append world 1000 (take i tys) ty) ∙ ap (table_lines world 1000) (sym whole)
