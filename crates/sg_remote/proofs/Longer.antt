-- The table with the far attributes that were found.
use Rattle.std.proofs.Common.{◌≡◌, ℕ, ◌+◌, ◌<◌, Bool, true, false, cond, List, [], ◌∷◌, ◌++◌, length, get_or, take, map, refl, sym, ap, ◌∙◌}
use Rattle.std.specs.Prelude.{if◌then◌else◌, filter, Result, Ok, Err, IfOk, OnOk}
use Rattle.std.proofs.lemmas.List.{map-append}
use Rattle.std.proofs.lemmas.List.Elements.{filter_more}
use Rattle.sg_kinds.specs.declared.spec.Far.{Far}
use Rattle.sg_kinds.specs.declared.spec.Attr.{Attr}
use Rattle.sg_ast.specs.Declarations.{Decl}
use Rattle.sg_names.specs.More.{with_more}
use Rattle.sg_names.specs.Names as written
use Rattle.sg_names.specs.declared.table.Table.{Table}
use Rattle.sg_remote.specs.Atoms.{atoms}
use Rattle.sg_remote.specs.Lists.{lists_of}
use Rattle.sg_remote.specs.Bearing.{borne}
use Rattle.sg_remote.specs.Longer.{far_attr, more, with_far, names_of}
use Rattle.sg_remote.specs.Reach.{flag}
use Rattle.sg_remote.specs.declared.atoms.Atom.{Atom}

longer : (t : Table) (f g : ℕ → List Attr) → ((p : ℕ) → f p ≡ g p) → with_more t f ≡ with_more t g
longer t f g same = ap (with_more t) (λ i p. same p i)

pub hidden : {E : Type 0} (t n : Table) (ds : List Decl) (f : ℕ → List Attr) (r : Result Table E) → t ≡ written.names_of ds → ((p : ℕ) → f p ≡ more t (atoms t ds) (lists_of (atoms t ds)) p)
    → n ≡ with_more t f → IfOk r (λ m. m ≡ n) → IfOk r (λ m. m ≡ names_of ds)
unfolding names_of
hidden t n ds f (Ok m) is rows e kept = kept ∙ e ∙ longer t f (more t (atoms t ds) (lists_of (atoms t ds))) rows ∙ ap (λ s. with_far s ds) is
hidden t n ds f (Err x) is rows e kept = tt

pub anyway : {X E : Type 0} (r : Result X E) (P : Type 0) → P → OnOk r P
anyway (Ok x) P holds = holds
anyway (Err x) P holds = tt

one_kept : {A B : Type 0} (f : A → B) (x : A) (b : Bool) → cond b (f x ∷ []) [] ≡ map f (cond b (x ∷ []) [])
one_kept f x true = refl
one_kept f x false = refl

-- the far attributes of one more list
pub more_step : (t : Table) (rs : List Atom) (fss : List (List Far)) (i : ℕ) (fs : List Far) (flags : List Bool) (old new : ℕ → List Attr)
    → i < length fss → fs ≡ get_or fss i fs → flags ≡ borne t rs fs → ((p : ℕ) → old p ≡ more t rs (take i fss) p)
    → ((p : ℕ) → new p ≡ old p ++ (if flag flags p then far_attr t fs ∷ [] else [])) → (p : ℕ) → new p ≡ more t rs (take (i + 1) fss) p
more_step t rs fss i fs flags old new low is bears so_far added p =
    added p
    ∙ ap (λ xs. xs ++ cond (flag flags p) (far_attr t fs ∷ []) []) (so_far p)
    ∙ ap (λ xs. more t rs (take i fss) p ++ xs) last
    ∙ sym (map-append (far_attr t) (filter passes (take i fss)) (cond (passes (get_or fss i fs)) (get_or fss i fs ∷ []) []))
    ∙ ap (map (far_attr t)) (sym (filter_more passes fss i fs low))
  where
    passes : List Far → Bool
    passes gs = flag (borne t rs gs) p

    last : cond (flag flags p) (far_attr t fs ∷ []) [] ≡ map (far_attr t) (cond (passes (get_or fss i fs)) (get_or fss i fs ∷ []) [])
    last =
        ap (λ fl. cond (flag fl p) (far_attr t fs ∷ []) []) bears
        ∙ one_kept (far_attr t) fs (passes fs)
        ∙ ap (λ gs. map (far_attr t) (cond (passes gs) (gs ∷ []) [])) is
