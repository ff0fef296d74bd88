-- The first declaration, and the others behind it.
use Rattle.std.proofs.Common.{◌≡◌, ℕ, zero, suc, ◌<◌, ◌≤◌, Bool, true, false, cond, List, [], ◌∷◌, length, take, drop, refl, ap, ◌∙◌, arith}
use Rattle.std.specs.Prelude.{flat_map}
use Rattle.sg_text.specs.declared.tokens.Kind.{Kind}
use Rattle.sg_text.specs.declared.tokens.Kind.TheVariants.{Symbol}
use Rattle.sg_text.specs.declared.tokens.Token.{Token}
use Rattle.sg_text.specs.declared.symbols.Symbol.TheVariants.{Semicolon}
use Rattle.sg_text.specs.Cut.{open_after, ends, joined, cut_from, declaration_len, CutsFirst}

-- where a declaration ends no bracket is open
ends-closed : (n : ℕ) (k : Kind) → ends n k ≡ true → open_after n k ≡ 0
ends-closed zero (Symbol Semicolon) e = refl
ends-closed n k e = cc

-- a token and the first declaration behind it
joined-first : (m : ℕ) (t : Token) (ts : List Token) → (0 < length ts → cut_from m ts ≡ take (declaration_len m ts) ts ∷ cut_from 0 (drop (declaration_len m ts) ts)) → joined t (cut_from m ts) ≡ (t ∷ take (declaration_len m ts) ts) ∷ cut_from 0 (drop (declaration_len m ts) ts)
joined-first m t [] rest = refl
joined-first m t (u ∷ us) rest = rw (rest (omega arith)) refl

-- whether the token ends the declaration or not
step-first : (end : Bool) (n : ℕ) (t : Token) (ts : List Token) → ends n t.kind ≡ end → (0 < length ts → cut_from (open_after n t.kind) ts ≡ take (declaration_len (open_after n t.kind) ts) ts ∷ cut_from 0 (drop (declaration_len (open_after n t.kind) ts) ts)) → cut_from n (t ∷ ts) ≡ take (declaration_len n (t ∷ ts)) (t ∷ ts) ∷ cut_from 0 (drop (declaration_len n (t ∷ ts)) (t ∷ ts))
step-first true n t ts end rest = rw (end, ends-closed n t.kind end) refl
step-first false n t ts end rest = rw end (joined-first (open_after n t.kind) t ts rest)

cut_from-first : (n : ℕ) (ts : List Token) → 0 < length ts → cut_from n ts ≡ take (declaration_len n ts) ts ∷ cut_from 0 (drop (declaration_len n ts) ts)
cut_from-first n [] some = absurd (omega arith)
cut_from-first n (t ∷ ts) some = step-first (ends n t.kind) n t ts refl (cut_from-first (open_after n t.kind) ts)

declaration_len-some : (n : ℕ) (t : Token) (ts : List Token) → 0 < declaration_len n (t ∷ ts)
declaration_len-some n t ts =
    elim (ends n t.kind) as (λ v. 0 < cond v 1 (suc (declaration_len (open_after n t.kind) ts))) [ true ↦ omega arith | false ↦ omega arith ]

declaration_len-le : (n : ℕ) (ts : List Token) → declaration_len n ts ≤ length ts
declaration_len-le n [] = omega arith
declaration_len-le n (t ∷ ts) =
    let rest = declaration_len-le (open_after n t.kind) ts in
    elim (ends n t.kind) as (λ v. cond v 1 (suc (declaration_len (open_after n t.kind) ts)) ≤ suc (length ts)) [ true ↦ omega arith | false ↦ omega arith ]

pub cuts-first : (n : ℕ) (ts : List Token) → n ≡ declaration_len 0 ts → 0 < length ts → CutsFirst n ts
cuts-first n [] len some = absurd (omega arith)
cuts-first n (t ∷ ts) len some = record {
  some = rw len (declaration_len-some 0 t ts);
  within = rw len (declaration_len-le 0 (t ∷ ts));
  first = rw len (cut_from-first 0 (t ∷ ts) some);
}

joined-all : (t : Token) (ds : List (List Token)) → flat_map (λ d. d) (joined t ds) ≡ t ∷ flat_map (λ d. d) ds
joined-all t [] = refl
joined-all t (d ∷ ds) = refl

step-all : (end : Bool) (t : Token) (ds : List (List Token)) → flat_map (λ d. d) (cond end ((t ∷ []) ∷ ds) (joined t ds)) ≡ t ∷ flat_map (λ d. d) ds
step-all true t ds = refl
step-all false t ds = joined-all t ds

-- the declarations are the tokens, joined in order
pub cut_from-all : (n : ℕ) (ts : List Token) → flat_map (λ d. d) (cut_from n ts) ≡ ts
cut_from-all n [] = refl
cut_from-all n (t ∷ ts) =
    step-all (ends n t.kind) t (cut_from (open_after n t.kind) ts) ∙ ap (λ us. t ∷ us) (cut_from-all (open_after n t.kind) ts)
