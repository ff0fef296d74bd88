-- First definitions with one more.
use Rattle.std.proofs.Common.{◌≡◌, ℕ, ◌+◌, Bool, true, false, cond, List, [], ◌∷◌, ◌++◌, length, Some, None, is_some, unwrap_or, if◌then◌else◌, bytes_eq, refl, sym, ap, ◌∙◌, arith, nat_lt, ◌≤◌, not, length-append}
use Rattle.std.specs.List.{position, position_or_len}
use Rattle.std.proofs.lemmas.Bool.Decides.{nat_tests}
use Rattle.std.proofs.lemmas.List.Sums.{prefix_len-le-length}
use Rattle.sg_ast.specs.FirstFault.{or_else}
use Rattle.sg_names.specs.declared.index.Index.{Index}
use Rattle.sg_names.specs.Meaning.{meaning}
use Rattle.sg_tables.specs.HeadViews.{IsCounted}
use Rattle.sg_names.specs.declared.heads.Head.{Head}
use Rattle.sg_names.specs.Heads.{is_head, with_head}
use Rattle.sg_names.proofs.HeadLaws.{position_push, some_place}

by_number : (b : Bool) (k n : ℕ) → (b ≡ false → k ≡ n) → unwrap_or (cond b (Some k) None) n ≡ k
by_number true k n h = refl
by_number false k n h = sym (h refl)

past : (k n : ℕ) → k ≤ n → nat_lt k n ≡ false → k ≡ n
past k n most fails = grind (arith, nat_tests)

-- the number of a name by its first place
pub number_there : (heads : List Head) (n : List ℕ) (count : ℕ) → length heads ≡ count → unwrap_or (position (is_head n) heads) count ≡ position_or_len (is_head n) heads
number_there heads n count e =
    ap (unwrap_or (position (is_head n) heads)) (sym e)
    ∙ by_number (nat_lt (position_or_len (is_head n) heads) (length heads)) (position_or_len (is_head n) heads) (length heads) (past (position_or_len (is_head n) heads) (length heads) (prefix_len-le-length (λ h. not (is_head n h)) heads))

-- a name that is there, and one that is new
pub with_old : (heads : List Head) (h : Head) → is_some (position (is_head h.name) heads) ≡ true → heads ≡ with_head heads h
with_old heads h e = ap (λ b. if b then heads else heads ++ h ∷ []) (sym e ∙ some_place (is_head h.name) heads)

pub with_new : (heads : List Head) (h : Head) → is_some (position (is_head h.name) heads) ≡ false → heads ++ h ∷ [] ≡ with_head heads h
with_new heads h e = ap (λ b. if b then heads else heads ++ h ∷ []) (sym e ∙ some_place (is_head h.name) heads)

length-push : {A : Type 0} (xs : List A) (x : A) → length (xs ++ x ∷ []) ≡ length xs + 1
length-push xs x = grind (arith, length-append)

-- the index with one more
pub counted_push : (heads after : List Head) (h : Head) (count next : ℕ) (old new : Index ℕ) → IsCounted heads count old → after ≡ heads ++ h ∷ [] → next ≡ count + 1
    → ((n : List ℕ) → meaning new n ≡ or_else (meaning old n) (if bytes_eq n h.name then Some count else None)) → IsCounted after next new
counted_push heads after h count next old new is pushed counts put = record {
  counted = ap length pushed ∙ length-push heads h ∙ ap (λ k. k + 1) is.counted ∙ sym counts;
  indexed = λ n. put n ∙ ap (λ o. or_else o (if bytes_eq n h.name then Some count else None)) (is.indexed n)
      ∙ ap (λ k. or_else (position (is_head n) heads) (if bytes_eq n h.name then Some k else None)) (sym is.counted) ∙ sym (position_push (is_head n) heads h)
      ∙ ap (position (is_head n)) (sym pushed);
}

missing : (b : Bool) (k n : ℕ) → cond b (Some k) None ≡ None → b ≡ false
missing true k n h = cc
missing false k n h = refl

-- a name that is not there
pub number_missing : (heads all : List Head) (n m : List ℕ) (count : ℕ) (index : Index ℕ) → IsCounted heads count index → heads ≡ all → m ≡ n → None ≡ meaning index m → count ≡ position_or_len (is_head n) all
number_missing heads all n m count index is same named none =
    let gone : position (is_head n) heads ≡ None = sym (is.indexed n) ∙ ap (meaning index) (sym named) ∙ sym none in
    let at : position_or_len (is_head n) heads ≡ length heads = past (position_or_len (is_head n) heads) (length heads) (prefix_len-le-length (λ h. not (is_head n h)) heads) (missing (nat_lt (position_or_len (is_head n) heads) (length heads)) (position_or_len (is_head n) heads) 0 gone) in
    sym is.counted ∙ sym at ∙ ap (position_or_len (is_head n)) same
