-- A line as it comes off a reader, and what was passed over
use Rattle.std.proofs.Common.{◌≡◌, ◌≢◌, ℕ, ◌+◌, ◌-◌, ◌<◌, ◌≤◌, List, [], ◌∷◌, ◌++◌, All, Bool, true, false, Option, Some, None, IfSome, OnSome, IsTrue, slice_index_or, zero, suc, ◌↔◌, length, take, drop, refl, sym, ap, subst, ◌∙◌, arith, append-nil, length-append, length-drop, take_all, eqb, cond}
use Rattle.std.proofs.lemmas.List.{drop-drop}
use Rattle.std.proofs.lemmas.List.Elements.{All-take, All-append}
use Rattle.std.proofs.Math.Seq.{take-append_seam}
use Rattle.std.specs.Io.{StopsAt}
use Rattle.std.specs.Io.KnownBytes.{Consumes, IsAtEnd}
use Rattle.std.specs.Io.BufRead.{take_through, drop_through, DropsThrough}
use Rattle.std.proofs.KnownBytes.{Consumes-nil, Consumes-trans}
use Rattle.std.proofs.BufReadLemmas.{Consumes_through, take_through-append, drop_through-append, take_through-nil}
use Rattle.sg_console.specs.declared.console.Taken.{Taken}
use Rattle.sg_console.specs.declared.console.Taken.TheVariants.{Line, Long, End}
use Rattle.sg_console.specs.Console.{IsTaken}
use Rattle.sg_console.specs.Lines.{IsNext, IsFilled}

plain_stops : (line : List ℕ) → All (λ b. b ≢ 10) line → StopsAt line 10
plain_stops line plain = All-take (λ b. b ≢ 10) (length line - 1) line plain

-- a line that ends in its newline
pub filled-newline : (most : ℕ) (a b c : Option (List ℕ)) (line all : List ℕ) (next : Option ℕ) (byte : ℕ) → length line < most → All (λ b. b ≢ 10) line → Consumes a b line
    → IsNext b c next → next ≡ Some byte → byte ≡ 10 → all ≡ line ++ byte ∷ [] → IsFilled most a c all true
filled-newline most a b c line all next byte within plain first read is newline whole =
    let last : Consumes b c (10 ∷ []) = subst (λ n. Consumes b c (n ∷ [])) newline (subst (IsNext b c) is read) in
    let all_is : all ≡ line ++ 10 ∷ [] = whole ∙ ap (λ n. line ++ n ∷ []) newline in
    let long : length (line ++ 10 ∷ []) ≡ length line + 1 = length-append line (10 ∷ []) in
    let fits : length (line ++ 10 ∷ []) ≤ most = omega arith in
    let before : length (line ++ 10 ∷ []) - 1 ≡ length line = omega arith in
    let front : take (length (line ++ 10 ∷ []) - 1) (line ++ 10 ∷ []) ≡ line = ap (λ n. take n (line ++ 10 ∷ [])) before ∙ take-append_seam line (10 ∷ []) in
    let stops : StopsAt (line ++ 10 ∷ []) 10 = subst (All (λ b. b ≢ 10)) (sym front) plain in
    let both = Consumes_through 10 a b c line (10 ∷ []) first plain last (λ k d h. absurd (omega arith)) (λ _. refl) (λ h. absurd (omega arith)) in
    subst (λ l. IsFilled most a c l true) (sym all_is) (fits, stops, both.0, both.1)

-- a line at the end of the input
pub filled-end : (most : ℕ) (a b c : Option (List ℕ)) (line : List ℕ) (next : Option ℕ) → length line ≤ most → All (λ b. b ≢ 10) line → Consumes a b line
    → IsNext b c next → next ≡ None → IsFilled most a c line true
filled-end most a b c line next within plain first read is = (within, plain_stops line plain, at a both.0, both.1)
  where
    last : IsNext b c None
    last = subst (IsNext b c) is read

    nothing : (o : Option (List ℕ)) → OnSome o (IsAtEnd c)
    nothing None = tt
    nothing (Some x) = last.1

    both : IfSome a (λ xs. line ++ [] ≡ take_through 10 xs) × DropsThrough a c 10
    both = Consumes_through 10 a b c line [] first plain last.0 (λ k d h. absurd (omega arith)) (λ h. absurd (omega arith)) (λ h. nothing b)

    at : (o : Option (List ℕ)) → IfSome o (λ xs. line ++ [] ≡ take_through 10 xs) → IfSome o (λ xs. line ≡ take_through 10 xs)
    at None h = tt
    at (Some xs) h = sym (append-nil line) ∙ h

-- the bytes that were passed over so far hold no newline
pub record IsPassing (old new : Option (List ℕ)) (some : Bool) : Type 0 where
  pub done : List ℕ
  pub plain : All (λ b. b ≢ 10) done
  pub consumed : Consumes old new done
  pub any : IsTrue some ↔ (1 ≤ length done)

pub passing-none : (a : Option (List ℕ)) → IsPassing a a false
passing-none a = record { done = []; plain = λ k d h. absurd (omega arith); consumed = Consumes-nil a; any = (λ t. cc, λ h. absurd (omega arith)) }

pub passing-more : (a b c : Option (List ℕ)) (some : Bool) (next : Option ℕ) (byte : ℕ) → IsPassing a b some → IsNext b c next → next ≡ Some byte → byte ≢ 10 → IsPassing a c true
passing-more a b c some next byte so_far read is other =
    let long : length (so_far.done ++ byte ∷ []) ≡ length so_far.done + 1 = length-append so_far.done (byte ∷ []) in
    let any : 1 ≤ length (so_far.done ++ byte ∷ []) = omega arith in
    record {
      done = so_far.done ++ byte ∷ [];
      plain = All-append (λ b. b ≢ 10) so_far.done (byte ∷ []) so_far.plain (λ k d h. one k d h);
      consumed = Consumes-trans a b c so_far.done (byte ∷ []) so_far.consumed (subst (IsNext b c) is read);
      any = (λ t. any, λ h. refl);
    }
  where
    one : (k d : ℕ) → k < length (byte ∷ []) → slice_index_or (byte ∷ []) k d ≢ 10
    one zero d h = other
    one (suc k) d h = absurd (omega arith)

-- the end of the input, or the newline
passed_end : (a b c : Option (List ℕ)) (some : Bool) → IsPassing a b some → Consumes b c [] → IsAtEnd c
    → IfSome a (λ xs. IsTrue some ↔ (1 ≤ length xs)) × DropsThrough a c 10
passed_end None b c some so_far last end = (tt, tt)
passed_end (Some xs) None c some so_far last end = absurd so_far.consumed
passed_end (Some xs) (Some ys) None some so_far last end = absurd last
passed_end (Some xs) (Some ys) (Some zs) some so_far last end =
    let all : xs ≡ so_far.done = so_far.consumed ∙ ap (λ l. so_far.done ++ l) (last ∙ end) ∙ append-nil so_far.done in
    let count : IsTrue some ↔ (1 ≤ length xs) = subst (λ l. IsTrue some ↔ (1 ≤ length l)) (sym all) so_far.any in
    let gone : drop_through 10 xs ≡ [] = ap (drop_through 10) (all ∙ sym (append-nil so_far.done)) ∙ drop_through-append 10 so_far.done [] so_far.plain in
    (count, ap Some (end ∙ sym gone))

passed_newline : (a b c : Option (List ℕ)) (some : Bool) → IsPassing a b some → Consumes b c (10 ∷ [])
    → IfSome a (λ xs. IsTrue true ↔ (1 ≤ length xs)) × DropsThrough a c 10
passed_newline None b c some so_far last = (tt, tt)
passed_newline (Some xs) None c some so_far last = absurd so_far.consumed
passed_newline (Some xs) (Some ys) None some so_far last = absurd last
passed_newline (Some xs) (Some ys) (Some zs) some so_far last =
    let all : xs ≡ so_far.done ++ 10 ∷ zs = so_far.consumed ∙ ap (λ l. so_far.done ++ l) last in
    let long : length (so_far.done ++ 10 ∷ zs) ≡ length so_far.done + length (10 ∷ zs) = length-append so_far.done (10 ∷ zs) in
    let any : 1 ≤ length xs = rw all (omega arith) in
    let left : drop_through 10 xs ≡ zs = ap (drop_through 10) all ∙ drop_through-append 10 so_far.done (10 ∷ zs) so_far.plain in
    ((λ t. any, λ h. refl), ap Some (sym left))

pub passed-end : (a b c : Option (List ℕ)) (some : Bool) (next : Option ℕ) → IsPassing a b some → IsNext b c next → next ≡ None
    → IfSome a (λ xs. IsTrue some ↔ (1 ≤ length xs)) × DropsThrough a c 10
passed-end a b c some next so_far read is = let last = subst (IsNext b c) is read in passed_end a b c some so_far last.0 last.1

pub passed-newline : (a b c : Option (List ℕ)) (some : Bool) (next : Option ℕ) (byte : ℕ) → IsPassing a b some → IsNext b c next → next ≡ Some byte → byte ≡ 10
    → IfSome a (λ xs. IsTrue true ↔ (1 ≤ length xs)) × DropsThrough a c 10
passed-newline a b c some next byte so_far read is newline = passed_newline a b c some so_far (subst (λ n. Consumes b c (n ∷ [])) newline (subst (IsNext b c) is read))

pub taken-line : (most : ℕ) (a c : Option (List ℕ)) (line : List ℕ) → IsFilled most a c line true → 1 ≤ length line → IsTaken most a c line Line
taken-line most a c line (within, stops, whole, rest) some = record { given = (some, within, stops, whole); rest = rest }

pub taken-end : (most : ℕ) (a c : Option (List ℕ)) (line : List ℕ) → IsFilled most a c line true → line ≡ [] → IsTaken most a c line End
taken-end most a c line (within, stops, whole, rest) none = record { given = (none, at a whole); rest = rest }
  where
    at : (o : Option (List ℕ)) → IfSome o (λ xs. line ≡ take_through 10 xs) → IfSome o (λ xs. xs ≡ [])
    at None h = tt
    at (Some xs) h = take_through-nil 10 xs (ap length (sym h ∙ none))

-- a full line without a newline, behind which there was nothing, or more
pub taken-full : (most : ℕ) (a b c : Option (List ℕ)) (line : List ℕ) → IsFilled most a b line false → IfSome b (λ xs. IsTrue false ↔ (1 ≤ length xs)) → DropsThrough b c 10 → 1 ≤ most
    → IsTaken most a c line Line
taken-full most a b c line (long, plain, consumed) none rest some =
    let least : 1 ≤ length line = omega arith in
    let within : length line ≤ most = omega arith in
    let both = at a b consumed none rest in
    record { given = (least, within, plain_stops line plain, both.0); rest = both.1 }
  where
    at : (a b : Option (List ℕ)) → Consumes a b line → IfSome b (λ xs. IsTrue false ↔ (1 ≤ length xs)) → DropsThrough b c 10
        → IfSome a (λ xs. line ≡ take_through 10 xs) × DropsThrough a c 10
    at None b consumed none rest = (tt, tt)
    at (Some xs) None consumed none rest = absurd consumed
    at (Some xs) (Some []) consumed none rest = (
      sym (ap (take_through 10) consumed ∙ take_through-append 10 line [] plain ∙ append-nil line),
      rest ∙ ap Some (sym (ap (drop_through 10) consumed ∙ drop_through-append 10 line [] plain)),
    )
    at (Some xs) (Some (y ∷ ys)) consumed none rest =
        let some : 1 ≤ length (y ∷ ys) = omega arith in
        let never : IsTrue false = none.1 some in cc

pub taken-long : (most : ℕ) (a b c : Option (List ℕ)) (line rest_line : List ℕ) → IsFilled most a b line false → IfSome b (λ xs. IsTrue true ↔ (1 ≤ length xs)) → DropsThrough b c 10
    → rest_line ≡ [] → IsTaken most a c rest_line Long
taken-long most a b c line rest_line (long, plain, consumed) some rest none = record { given = (none, (at a b consumed some rest).0); rest = (at a b consumed some rest).1 }
  where
    at : (a b : Option (List ℕ)) → Consumes a b line → IfSome b (λ xs. IsTrue true ↔ (1 ≤ length xs)) → DropsThrough b c 10
        → IfSome a (λ xs. most < length (take_through 10 xs)) × DropsThrough a c 10
    at None b consumed some rest = (tt, tt)
    at (Some xs) None consumed some rest = absurd consumed
    at (Some xs) (Some ys) consumed some rest =
        let any : 1 ≤ length ys = some.0 refl in
        let whole : take_through 10 xs ≡ line ++ take_through 10 ys = ap (take_through 10) consumed ∙ take_through-append 10 line ys plain in
        let left : drop_through 10 xs ≡ drop_through 10 ys = ap (drop_through 10) consumed ∙ drop_through-append 10 line ys plain in
        let more : 1 ≤ length (take_through 10 ys) = one ys any in
        let sum : length (line ++ take_through 10 ys) ≡ length line + length (take_through 10 ys) = length-append line (take_through 10 ys) in
        let past : most < length (line ++ take_through 10 ys) = omega arith in
        (rw whole past, rest ∙ ap Some (sym left))
      where
        one : (ys : List ℕ) → 1 ≤ length ys → 1 ≤ length (take_through 10 ys)
        one [] any = any
        one (y ∷ ys) any = by (eqb y 10)
          where
            by : (b : Bool) → 1 ≤ length (cond b (y ∷ []) (y ∷ take_through 10 ys))
            by true = omega arith
            by false = omega arith

drop_step : (x : ℕ) (xs rest : List ℕ) (b : Bool) → (length rest ≤ length xs) × (drop (length xs - length rest) xs ≡ rest)
    → (length (cond b xs rest) ≤ length (x ∷ xs)) × (drop (length (x ∷ xs) - length (cond b xs rest)) (x ∷ xs) ≡ cond b xs rest)
drop_step x xs rest true h =
    let one : length (x ∷ xs) - length xs ≡ 1 = omega arith in
    (omega arith, ap (λ n. drop n (x ∷ xs)) one)
drop_step x xs rest false h =
    let fits : length rest ≤ length xs = h.0 in
    let more : length (x ∷ xs) - length rest ≡ suc (length xs - length rest) = omega arith in
    (omega arith, ap (λ n. drop n (x ∷ xs)) more ∙ h.1)

-- what is left is the end of what was left
drop_through-drop : (xs : List ℕ) → (length (drop_through 10 xs) ≤ length xs) × (drop (length xs - length (drop_through 10 xs)) xs ≡ drop_through 10 xs)
drop_through-drop [] = (omega arith, refl)
drop_through-drop (x ∷ xs) = drop_step x xs (drop_through 10 xs) (eqb x 10) (drop_through-drop xs)

-- a line off the end of an input that begins at a place: the place where what is left begins
taken-at : (most at n : ℕ) (input left rest line : List ℕ) (taken : Taken) → IsTaken most (Some left) (Some rest) line taken → left ≡ drop at input → at ≤ length input → n ≡ length input
    → (length rest ≤ n) × (drop (n - length rest) input ≡ rest)
taken-at most at n input left rest line taken t is within all =
    let last : rest ≡ drop_through 10 left = cc (t.rest) in
    let fits : length rest ≤ length left = rw last (drop_through-drop left).0 in
    let long : length left ≡ length input - at = ap length is ∙ length-drop at input in
    let place : n - length rest ≡ at + (length left - length rest) = omega arith in
    let parts : drop (at + (length left - length rest)) input ≡ drop (length left - length rest) (drop at input) = sym (drop-drop (length left - length rest) at input) in
    let end : drop (length left - length rest) left ≡ rest = ap (λ r. drop (length left - length r) left) last ∙ (drop_through-drop left).1 ∙ sym last in
    (omega arith, ap (λ k. drop k input) place ∙ parts ∙ ap (drop (length left - length rest)) (sym is) ∙ end)

whole_end : (at : ℕ) (bytes input : List ℕ) → bytes ≡ input → take (length bytes - at) (drop at bytes) ≡ drop at input
whole_end at bytes input is =
    let fits : length (drop at bytes) ≤ length bytes - at = omega (arith, length-drop at bytes) in
    take_all (length bytes - at) (drop at bytes) fits ∙ ap (drop at) is

pub taken_fits : (most at n : ℕ) (input bytes rest line : List ℕ) (taken : Taken) → IsTaken most (Some (take (length bytes - at) (drop at bytes))) (Some rest) line taken → bytes ≡ input → at ≤ length input
    → n ≡ length input → length rest ≤ n
taken_fits most at n input bytes rest line taken t is within all = (taken-at most at n input (take (length bytes - at) (drop at bytes)) rest line taken t (whole_end at bytes input is) within all).0

pub taken_in : (most at n : ℕ) (input bytes left rest line : List ℕ) (taken : Taken) → IsTaken most (Some (take (length bytes - at) (drop at bytes))) (Some rest) line taken → bytes ≡ input
    → at ≤ length input → n ≡ length input → left ≡ drop at input → IsTaken most (Some left) (Some (drop (n - length rest) input)) line taken
taken_in most at n input bytes left rest line taken t is within all old =
    let begins = whole_end at bytes input is in
    let ends = (taken-at most at n input (take (length bytes - at) (drop at bytes)) rest line taken t begins within all).1 in
    let t' = subst (λ l. IsTaken most (Some l) (Some rest) line taken) (begins ∙ sym old) t in
    subst (λ l. IsTaken most (Some left) (Some l) line taken) (sym ends) t'

-- what a console that tells nothing says of a line
pub taken-untold : (most : ℕ) (a c : Option (List ℕ)) (line : List ℕ) (taken : Taken) → IsTaken most a c line taken → IsTaken most None None line taken
taken-untold most a c line Line t = record { given = (t.given.0, t.given.1, t.given.2, tt); rest = tt }
taken-untold most a c line Long t = record { given = (t.given.0, tt); rest = tt }
taken-untold most a c line End t = record { given = (t.given.0, tt); rest = tt }
