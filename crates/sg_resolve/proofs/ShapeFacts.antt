-- First definitions of names: which they are, and what finds them.
use Rattle.std.proofs.Common.{◌≡◌, ℕ, ◌<◌, Bool, true, false, cond, if◌then◌else◌, nat_lt, List, [], ◌∷◌, ◌++◌, length, flat_map, fold, get_or, Some, None, is_some, slice_get, refl, sym, ap, ◌∙◌}
use Rattle.std.specs.List.{AllByRecursion, list_any, position}
use Rattle.std.proofs.lemmas.List.Quantifiers.{position-Some}
use Rattle.std.proofs.lemmas.Option.{slice_get-get_or}
use Rattle.sg_kinds.specs.Values.{Bytes}
use Rattle.sg_kinds.proofs.Elementary.{bytes_is, lt_true}
use Rattle.sg_ast.specs.Declarations.{Decl}
use Rattle.sg_names.specs.declared.heads.Head.{Head}
use Rattle.sg_names.specs.Heads.{is_head, with_head, number_in, base_heads}
use Rattle.sg_names.specs.Names.{phylum_defined, phyla_in}
use Rattle.sg_names.proofs.HeadLaws.{some_place}
use Rattle.sg_resolve.proofs.HeadCounts.{fold_has}
use Rattle.sg_resolve.proofs.ShapeLists.{each_append}

-- what holds of the base phyla and of what is defined holds of the first definitions
fold_each : (P : Head → Type 0) (hs xs : List Head) → AllByRecursion P hs → AllByRecursion P xs → AllByRecursion P (fold with_head hs xs)
fold_each P hs [] a b = a
fold_each P hs (x ∷ xs) a b = fold_each P (with_head hs x) xs (by (list_any (is_head x.name) hs)) b.1
  where
    by : (c : Bool) → AllByRecursion P (if c then hs else hs ++ x ∷ [])
    by true = a
    by false = each_append P hs (x ∷ []) a (b.0, tt)

pub each_head : (P : Head → Type 0) (ds : List Decl) → AllByRecursion P base_heads → AllByRecursion P (flat_map phylum_defined ds) → AllByRecursion P (phyla_in ds)
each_head P ds a b = fold_each P base_heads (flat_map phylum_defined ds) a b

-- each name that is defined is there
pub each_defined_is_there : (ds : List Decl) → AllByRecursion (λ (h : Head). list_any (is_head h.name) (phyla_in ds) ≡ true) (flat_map phylum_defined ds)
each_defined_is_there ds = fold_has base_heads (flat_map phylum_defined ds)

-- a name whose first definition has a number
pub record Finds (hs : List Head) (n : Bytes) (k : ℕ) : Type 0 where
  pub head : Head
  pub there : slice_get hs k ≡ Some head
  pub name : head.name ≡ n
  pub within : k < length hs
  pub place : position (is_head n) hs ≡ Some k
  pub number : number_in hs n ≡ k

some_number : (b : Bool) (j k : ℕ) → cond b (Some j) None ≡ Some k → j ≡ k
some_number true j k e = cc e
some_number false j k e = absurd (cc e)

pub finds_place : (hs : List Head) (n : Bytes) (k : ℕ) → position (is_head n) hs ≡ Some k → Finds hs n k
finds_place [] n k e = absurd (cc e)
finds_place (h ∷ hs) n k e =
    let s = position-Some (is_head n) (h ∷ hs) k h e in
    record {
      head = get_or (h ∷ hs) k h;
      there = slice_get-get_or (h ∷ hs) k h s.0;
      name = sym (bytes_is n (get_or (h ∷ hs) k h).name s.1);
      within = s.0;
      place = e;
      number = some_number (nat_lt (number_in (h ∷ hs) n) (length (h ∷ hs))) (number_in (h ∷ hs) n) k e;
    }

pub finds_number : (hs : List Head) (n : Bytes) → number_in hs n < length hs → Finds hs n (number_in hs n)
finds_number hs n low = finds_place hs n (number_in hs n) (ap (λ b. cond b (Some (number_in hs n)) None) (lt_true (number_in hs n) (length hs) low))

some_is : (b : Bool) (j : ℕ) → is_some (cond b (Some j) None) ≡ true → cond b (Some j) None ≡ Some j
some_is true j e = refl
some_is false j e = absurd (cc e)

pub finds_there : (hs : List Head) (n : Bytes) → list_any (is_head n) hs ≡ true → Finds hs n (number_in hs n)
finds_there hs n e = finds_place hs n (number_in hs n) (some_is (nat_lt (number_in hs n) (length hs)) (number_in hs n) (some_place (is_head n) hs ∙ e))
