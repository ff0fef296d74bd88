-- What fits a phylum, whatever its children.
use Rattle.std.proofs.Common.{◌≡◌, ◌⊎◌, inl, inr, ℕ, ◌<◌, ◌≤◌, ℤ, Bool, true, false, [], ◌∷◌, length, refl, sym, ap, ◌∙◌, subst, arith, Option, Some, None, option_map, slice_get, MatchOption}
use Rattle.std.specs.Prelude.{◌↔◌, IsTrue}
use Rattle.std.proofs.lemmas.Option.{slice_get_past, slice_get_cases}
use Rattle.sg_kinds.specs.Fits.{MayHold, IsLexeme}
use Rattle.sg_kinds.specs.Lexemes as plain
use Rattle.sg_kinds.specs.Matches.{Matches}
use Rattle.sg_kinds.specs.Values.{Bytes, Value, Number, Chars, is_number, is_text}
use Rattle.sg_kinds.specs.declared.spec.Phylum.{Phylum}
use Rattle.sg_kinds.specs.declared.spec.Spec.{Spec}
use Rattle.sg_names.specs.Callables.{operator_in}
use Rattle.sg_names.specs.Meaning.{meaning}
use Rattle.sg_names.specs.Names as names
use Rattle.sg_names.specs.declared.index.Index.{Index}
use Rattle.sg_names.specs.declared.table.Callable.{Callable}
use Rattle.sg_names.specs.declared.table.Callable.TheVariants.{Operator as OperatorOf}
use Rattle.sg_saved.specs.Misfits.{op_named, LeafFits}
use Rattle.sg_saved_form.specs.Files.{Raw, Branch, Whole, Quote, Flag, IsRaw}
use Rattle.sg_saved.specs.Heads.{AreNames, head_of}
use Rattle.sg_saved.specs.declared.heads.Head.TheVariants.{Leaf}
use Rattle.sg_saved.proofs.Texts.{named-is}

-- what a name means is the operator of the name
some-named : (o : Option ℕ) (c : Callable) → Some c ≡ option_map OperatorOf o → operator_in c ≡ o
some-named None c is = absurd (cc)
some-named (Some op) c is = let e : c ≡ OperatorOf op = cc in ap operator_in e

pub found : (ops : _) (index : Index Callable) (name : Bytes) (c : Callable) → AreNames ops index → meaning index name ≡ Some c → operator_in c ≡ op_named ops name
found ops index name c are is = some-named (names.op_named ops name) c (sym is ∙ are name) ∙ named-is name ops

none-named : (o : Option ℕ) → None ≡ option_map OperatorOf o → None ≡ o
none-named None is = refl
none-named (Some op) is = absurd (cc)

pub missing : (ops : _) (index : Index Callable) (name : Bytes) → AreNames ops index → meaning index name ≡ None → None ≡ op_named ops name
missing ops index name are is = none-named (names.op_named ops name) (sym is ∙ are name) ∙ named-is name ops

-- a lexeme
pub empty-lexeme : (spec : Spec) (l : ℕ) (s : Bytes) → length s ≡ 0 → IsTrue true ↔ IsLexeme spec l s
empty-lexeme spec l [] none = (λ e. inl refl, λ h. refl)
empty-lexeme spec l (b ∷ bs) none = absurd (omega arith)

pub lexeme-there : (spec : Spec) (l : ℕ) (s : Bytes) (r : Bool) → (length s ≡ 0 → ⊥) → l < length spec.lexemes → ((p : plain.Lexeme) → slice_get spec.lexemes l ≡ Some p → IsTrue r ↔ Matches p s) → IsTrue r ↔ IsLexeme spec l s
lexeme-there spec l s r some low matched = by (slice_get spec.lexemes l) refl
  where
    Matched : Option plain.Lexeme → Type 0
    Matched o = MatchOption o ⊥ (λ p. Matches p s)

    by : (o : Option plain.Lexeme) → slice_get spec.lexemes l ≡ o → IsTrue r ↔ ((s ≡ []) ⊎ Matched (slice_get spec.lexemes l))
    by None is = absurd (elim (slice_get_cases spec.lexemes l).1 [ inl x ↦ (let e : None ≡ Some x.0 = sym is ∙ x.2 in cc) | inr past ↦ omega (arith, past.0) ])
    by (Some p) is = (
      λ e. inr (subst Matched (sym is) ((matched p is).0 e)),
      λ h. elim h [ inl empty ↦ absurd (some (ap length empty)) | inr m ↦ (matched p is).1 (subst Matched is m) ],
    )

pub lexeme-missing : (spec : Spec) (l : ℕ) (s : Bytes) → (length s ≡ 0 → ⊥) → length spec.lexemes ≤ l → IsTrue false ↔ IsLexeme spec l s
lexeme-missing spec l s some past = (
  λ e. absurd (let k : false ≡ true = e in cc),
  λ h. elim h [ inl empty ↦ absurd (some (ap length empty)) | inr m ↦ absurd (subst (λ o. MatchOption o ⊥ (λ p. Matches p s)) (slice_get_past spec.lexemes l past) m) ],
)

-- the value of a leaf
pub leaf-there : (spec : Spec) (p : ℕ) (x : Phylum) (v : Value) (r : Bool) → slice_get spec.phyla p ≡ Some x → IsTrue r ↔ MayHold spec x.shape v → IsTrue r ↔ LeafFits spec p v
leaf-there spec p x v r is may = subst (λ o. IsTrue r ↔ MatchOption o ⊥ (λ (y : Phylum). MayHold spec y.shape v)) (sym is) may

pub leaf-missing : (spec : Spec) (p : ℕ) (v : Value) → slice_get spec.phyla p ≡ None → IsTrue false ↔ LeafFits spec p v
leaf-missing spec p v is = subst (λ o. IsTrue false ↔ MatchOption o ⊥ (λ (y : Phylum). MayHold spec y.shape v)) (sym is) (λ e. absurd (let k : false ≡ true = e in cc), λ h. absurd h)

pub quote-held : (spec : Spec) (r : Raw) (s : Bytes) → IsRaw r → Leaf (Chars s) ≡ head_of spec r → is_text s ≡ true
quote-held spec (Quote t) s is same = let e : s ≡ t = cc in ap is_text e ∙ is
quote-held spec (Branch name rs) s is same = absurd (cc)
quote-held spec (Whole z) s is same = absurd (cc)
quote-held spec (Flag b) s is same = absurd (cc)

pub whole-held : (spec : Spec) (r : Raw) (z : ℤ) → IsRaw r → Leaf (Number z) ≡ head_of spec r → is_number z ≡ true
whole-held spec (Whole y) z is same = let e : z ≡ y = cc in ap is_number e ∙ is
whole-held spec (Branch name rs) z is same = absurd (cc)
whole-held spec (Quote s) z is same = absurd (cc)
whole-held spec (Flag b) z is same = absurd (cc)
