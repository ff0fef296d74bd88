-- A text that is no file, and its longest front that begins one.
use Rattle.std.proofs.Common.{◌≡◌, ◌⊎◌, inl, inr, ℕ, zero, suc, ◌+◌, ◌<◌, [], ◌∷◌, ◌++◌, length, get_or, take, refl, sym, ap, ◌∙◌, subst, arith, Option, Some, None, option_and_then, append_assoc, append-nil, take_all}
use Rattle.std.proofs.lemmas.List.{take_more}
use Rattle.std.proofs.lemmas.Bool.{cases_order}
use Rattle.sg_kinds.specs.Values.{Bytes}
use Rattle.sg_saved_form.specs.Files.{Raw, file_of, IsRaw, IsFile, BeginsFile, IsNoFile}
use Rattle.sg_saved_form.specs.Machine.{State, Frame, Before, Name, Minus, Digits, Text, Escape, After, End, feed, run, ended}
use Rattle.sg_saved_form.proofs.Fronts.{IsState, leads}
use Rattle.sg_saved_form.proofs.Ends.{begins}
use Rattle.sg_saved_form.proofs.Spellings.{run-append, file-run}

-- the state before the first byte
abbrev pub first_state : State
first_state = Frame 0

pub first-is : IsState first_state
first-is = omega arith

-- a file is one term's
pub one-file : (r s : Raw) → IsRaw r → IsRaw s → file_of r ≡ file_of s → r ≡ s
one-file r s is is' same = let both : Some (End r) ≡ Some (End s) = sym (file-run r is) ∙ ap (run first_state) same ∙ file-run s is' in cc

-- what is read begins a file
read-begins : (s : Bytes) (σ : State) → run first_state s ≡ Some σ → BeginsFile s
read-begins s σ r = let l = leads first_state σ s first-is r in subst BeginsFile l.text (begins σ l.is)

ended-is : (σ : State) (x : Raw) → ended σ ≡ Some x → σ ≡ End x
ended-is (End r) x is = let same : r ≡ x = cc in ap End same
ended-is (Frame k) x is = absurd (cc)
ended-is (Before os) x is = absurd (cc)
ended-is (Name os bs) x is = absurd (cc)
ended-is (Minus os) x is = absurd (cc)
ended-is (Digits os z) x is = absurd (cc)
ended-is (Text os s) x is = absurd (cc)
ended-is (Escape os s) x is = absurd (cc)
ended-is (After os r) x is = absurd (cc)

pub record IsFileOf (bytes : Bytes) (x : Raw) : Type 0 where
  pub is : IsRaw x
  pub same : bytes ≡ file_of x

-- where the reading ends it has read a file
pub read-file : (s : Bytes) (σ : State) (x : Raw) → run first_state s ≡ Some σ → ended σ ≡ Some x → IsFileOf s x
read-file s σ x r e =
    let l = leads first_state (End x) s first-is (r ∙ ap Some (ended-is σ x e)) in
    record { is = l.is; same = sym l.text }

-- where it does not end it has read none
pub not-ended : (s : Bytes) (σ : State) → run first_state s ≡ Some σ → ended σ ≡ None → IsFile s → ⊥
not-ended s σ r none f =
    let both : Some σ ≡ Some (End f.raw) = sym r ∙ ap (run first_state) f.same ∙ file-run f.raw f.is in
    let same : σ ≡ End f.raw = cc in
    let ends : None ≡ Some f.raw = sym none ∙ ap ended same in
    cc

-- nothing begins with what is refused
pub refused-begins : (s u : Bytes) (σ : State) (b : ℕ) → run first_state s ≡ Some σ → feed σ b ≡ None → BeginsFile (s ++ b ∷ u) → ⊥
refused-begins s u σ b r none f =
    let regrouped : (s ++ b ∷ u) ++ f.more ≡ s ++ (b ∷ (u ++ f.more)) = append_assoc s (b ∷ u) f.more in
    let whole : run first_state (s ++ (b ∷ (u ++ f.more))) ≡ Some (End f.file.raw) = ap (run first_state) (sym regrouped ∙ f.file.same) ∙ file-run f.file.raw f.file.is in
    let stopped : run σ (b ∷ (u ++ f.more)) ≡ None = ap (λ o. option_and_then (λ τ. run τ (u ++ f.more)) o) none in
    let both : None ≡ Some (End f.file.raw) = sym stopped ∙ sym (run-append first_state σ s (b ∷ (u ++ f.more)) r) ∙ whole in
    cc

take-split : (xs : Bytes) (i n : ℕ) → i < n → i < length xs → (u : Bytes) × (take n xs ≡ take i xs ++ get_or xs i 0 ∷ u)
take-split [] i n less within = absurd (omega arith)
take-split (x ∷ xs) i zero less within = absurd (omega arith)
take-split (x ∷ xs) zero (suc n) less within = (take n xs, refl)
take-split (x ∷ xs) (suc i) (suc n) less within = let rest = take-split xs i n (omega arith) (omega arith) in (rest.0, ap (λ ys. x ∷ ys) rest.1)

-- a byte is refused
pub refused-form : (text : Bytes) (at : ℕ) (σ : State) → at < length text → run first_state (take at text) ≡ Some σ → feed σ (get_or text at 0) ≡ None → IsNoFile text at
refused-form text at σ within r none =
    let never = λ (n : ℕ) (less : at < n) (f : BeginsFile (take n text)). (let split = take-split text at n less within in refused-begins (take at text) split.0 σ (get_or text at 0) r none (subst BeginsFile split.1 f)) in
    record {
      no_file = λ f. never (length text) within (record { more = []; file = subst IsFile (sym (take_all (length text) text (omega arith)) ∙ sym (append-nil (take (length text) text))) f });
      within = omega arith;
      begins = read-begins (take at text) σ r;
      longest = λ n less le f. never n less f;
    }

-- the end is refused
pub end-form : (text : Bytes) (at : ℕ) (σ : State) → at ≡ length text → run first_state (take at text) ≡ Some σ → ended σ ≡ None → IsNoFile text at
end-form text at σ is r none = record {
  no_file = λ f. not-ended (take at text) σ r none (subst IsFile (sym (take_all at text (omega arith))) f);
  within = omega arith;
  begins = read-begins (take at text) σ r;
  longest = λ n less le f. absurd (omega arith);
}

-- one more byte is read
pub read-more : (text : Bytes) (at : ℕ) (σ τ : State) → at < length text → run first_state (take at text) ≡ Some σ → feed σ (get_or text at 0) ≡ Some τ → run first_state (take (at + 1) text) ≡ Some τ
read-more text at σ τ within r is =
    ap (run first_state) (take_more text at 0 within) ∙ run-append first_state σ (take at text) (get_or text at 0 ∷ []) r ∙ ap (λ o. option_and_then (λ ρ. run ρ []) o) is

-- each text is read to its end, or up to a byte that is refused
each : (text : Bytes) (fuel at : ℕ) (σ : State) → at + fuel ≡ length text → run first_state (take at text) ≡ Some σ → IsFile text ⊎ ((k : ℕ) × IsNoFile text k)
each text zero at σ full r = by (ended σ) refl
  where
    by : (o : Option Raw) → ended σ ≡ o → IsFile text ⊎ ((k : ℕ) × IsNoFile text k)
    by None e = inr (at, end-form text at σ (omega arith) r e)
    by (Some x) e = let f = read-file (take at text) σ x r e in inl (subst IsFile (take_all at text (omega arith)) (record { raw = x; is = f.is; same = f.same }))
each text (suc fuel) at σ full r = by (feed σ (get_or text at 0)) refl (λ τ e. each text fuel (at + 1) τ (omega arith) (read-more text at σ τ (omega arith) r e))
  where
    by : (o : Option State) → feed σ (get_or text at 0) ≡ o → ((τ : State) → feed σ (get_or text at 0) ≡ Some τ → IsFile text ⊎ ((k : ℕ) × IsNoFile text k)) → IsFile text ⊎ ((k : ℕ) × IsNoFile text k)
    by None e more = inr (at, refused-form text at σ (omega arith) r e)
    by (Some τ) e more = more τ e

pub each-text : (text : Bytes) → IsFile text ⊎ ((k : ℕ) × IsNoFile text k)
each-text text = each text (length text) 0 first_state (omega arith) refl

pub one-place : (text : Bytes) (k n : ℕ) → IsNoFile text k → IsNoFile text n → k ≡ n
one-place text k n f g = elim (cases_order k n) [
  | inl same ↦ same
  | inr other ↦ elim other [ inl less ↦ absurd (f.longest n less g.within g.begins) | inr more ↦ absurd (g.longest k more f.within f.begins) ]
]
