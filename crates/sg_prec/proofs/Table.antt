-- The first line of each literal, with one literal and one line more.
use Rattle.std.proofs.Common.{◌≡◌, ℕ, suc, ◌+◌, ◌<◌, Bool, true, false, cond, bytes_eq, List, [], ◌∷◌, ◌++◌, length, take, get_or, Vec, Option, Some, None, refl, sym, ap, subst, ◌∙◌, arith, length-take}
use Rattle.std.specs.Prelude.{is_some}
use Rattle.std.specs.Option.{option_or}
use Rattle.std.specs.List.{list_any, position, position_from}
use Rattle.std.specs.BTreeMap.{BTreeMap, UpdatesBy}
use Rattle.std.specs.Map.{KeepsOthers, IsKeyTest, AreApart, lookup}
use Rattle.std.specs.Cmp.Lexicographic.{slice_cmp, texts_ties}
use Rattle.std.specs.Ordering.{nat_cmp}
use Rattle.std.proofs.lemmas.Cmp.{nat_list_eq_equiv, nat_list_cmp_total, eq_by_cmp_equiv}
use Rattle.std.proofs.lemmas.Iterator.Adapters.{position_from-zero}
use Rattle.sg_kinds.specs.Values.{Bytes}
use Rattle.sg_kinds.specs.declared.spec.LevelLine.{LevelLine}
use Rattle.sg_kinds.proofs.Elementary.{bytes_is}
use Rattle.sg_kinds.proofs.Kids.{take_more}
use Rattle.sg_prec.specs.Precedence.{line_with}
use Rattle.sg_prec.specs.LineTable.{line_in}

other_keys : {K X : Type 0} (eq : K → K → Bool) (test : K → Bool) (old new : List (K × X)) → KeepsOthers eq test old new → (other : K → Bool) → IsKeyTest eq other → AreApart test other → lookup other new ≡ lookup other old
unfolding KeepsOthers
other_keys eq test old new h = h

apart : (bs cs ks : List ℕ) → bytes_eq bs cs ≡ false → bytes_eq bs ks ≡ true → bytes_eq cs ks ≡ false
apart bs cs ks n y = nat_list_eq_equiv.symm cs ks ∙ sym (nat_list_eq_equiv.congr bs ks cs y) ∙ n

by_case : {A : Type 0} (b : Bool) (x w y : A) → (b ≡ true → x ≡ w) → (b ≡ false → x ≡ y) → x ≡ cond b w y
by_case true x w y h k = h refl
by_case false x w y h k = k refl

-- what a change at some bytes leaves
changed : {A : Type 0} (bs : Bytes) (m n : BTreeMap (Vec ℕ A) ℕ) (w : Option ℕ) → UpdatesBy (λ x y. slice_cmp nat_cmp x.items y.items) (λ k. slice_cmp nat_cmp bs k.items) m n w
    → (cs : Bytes) → line_in n cs ≡ cond (bytes_eq bs cs) w (line_in m cs)
changed {A} bs m n w h cs = by_case (bytes_eq bs cs) (line_in n cs) w (line_in m cs)
    (λ e. subst (λ l. line_in n l ≡ w) (bytes_is bs cs e) h.1)
    (λ e. other_keys _ _ _ _ h.3 _ (λ x y. (eq_by_cmp_equiv nat_list_cmp_total).congr cs x.items y.items) (λ k y. sym (texts_ties cs k.items) ∙ apart bs cs k.items e (texts_ties bs k.items ∙ y)))

or_none : (o : Option ℕ) → option_or o None ≡ o
or_none None = refl
or_none (Some k) = refl

or_last : (o p : Option ℕ) → is_some o ≡ false → option_or o p ≡ p
or_last None p h = refl
or_last (Some j) p h = cc

-- a literal that is new
pub put_new : {A : Type 0} (key : Vec ℕ A) (literal : Bytes) (line : ℕ) (old new : BTreeMap (Vec ℕ A) ℕ) → key.items ≡ literal → is_some (line_in old literal) ≡ false
    → UpdatesBy (λ x y. slice_cmp nat_cmp x.items y.items) (λ k. slice_cmp nat_cmp key.items k.items) old new (Some line)
    → (s : Bytes) → line_in new s ≡ option_or (line_in old s) (cond (bytes_eq s literal) (Some line) None)
put_new key literal line old new is fresh put s =
    changed key.items old new (Some line) put s ∙ ap (λ (l : Bytes). cond (bytes_eq l s) (Some line) (line_in old s)) is ∙ ap (λ b. cond b (Some line) (line_in old s)) (nat_list_eq_equiv.symm literal s) ∙ by (bytes_eq s literal) refl
  where
    by : (b : Bool) → bytes_eq s literal ≡ b → cond b (Some line) (line_in old s) ≡ option_or (line_in old s) (cond b (Some line) None)
    by true e = sym (or_last (line_in old s) (Some line) (ap (λ l. is_some (line_in old l)) (bytes_is s literal e) ∙ fresh))
    by false e = sym (or_none (line_in old s))

-- one line more
from_push : {A : Type 0} (p : A → Bool) (i : ℕ) (xs : List A) (x : A) → position_from p i (xs ++ x ∷ []) ≡ option_or (position_from p i xs) (cond (p x) (Some (i + length xs)) None)
from_push p i [] x = let e : i ≡ i + 0 = omega arith in ap (λ n. cond (p x) (Some n) None) e
from_push p i (y ∷ ys) x =
    let e : (i + 1) + length ys ≡ i + suc (length ys) = omega arith in
    let h = from_push p (i + 1) ys x in
    ap (λ o. cond (p y) (Some i) o) (h ∙ ap (λ n. option_or (position_from p (i + 1) ys) (cond (p x) (Some n) None)) e) ∙ first_of_two (p y) i (position_from p (i + 1) ys) (cond (p x) (Some (i + suc (length ys))) None)
  where
    first_of_two : (b : Bool) (k : ℕ) (o q : Option ℕ) → cond b (Some k) (option_or o q) ≡ option_or (cond b (Some k) o) q
    first_of_two true k o q = refl
    first_of_two false k o q = refl

position_push : {A : Type 0} (p : A → Bool) (xs : List A) (x : A) → position p (xs ++ x ∷ []) ≡ option_or (position p xs) (cond (p x) (Some (length xs)) None)
position_push p xs x =
    position_from-zero p (xs ++ x ∷ []) ∙ from_push p 0 xs x
    ∙ ap (λ o. option_or o (cond (p x) (Some (0 + length xs)) None)) (sym (position_from-zero p xs))
    ∙ (let e : 0 + length xs ≡ length xs = omega arith in ap (λ n. option_or (position p xs) (cond (p x) (Some n) None)) e)

pub lines_more : (old new : Option ℕ) (s : Bytes) (lines : List LevelLine) (i : ℕ) (line : LevelLine) → i < length lines → line ≡ get_or lines i line
    → old ≡ line_with (take i lines) s → new ≡ option_or old (cond (list_any (bytes_eq s) line.literals) (Some i) None) → new ≡ line_with (take (i + 1) lines) s
lines_more old new s lines i line low here was is =
    let long : length (take i lines) ≡ i = omega (arith, low, length-take i lines) in
    is ∙ ap (λ o. option_or o (cond (list_any (bytes_eq s) line.literals) (Some i) None)) was
    ∙ ap (λ n. option_or (line_with (take i lines) s) (cond (list_any (bytes_eq s) line.literals) (Some n) None)) (sym long)
    ∙ sym (position_push (λ (l : LevelLine). list_any (bytes_eq s) l.literals) (take i lines) line)
    ∙ ap (λ (ls : List LevelLine). line_with ls s) (sym (take_more lines i line low here))
