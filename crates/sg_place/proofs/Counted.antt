-- The line of a place, and how many bytes stand on it before the place, counted from an earlier one on.
use Rattle.std.proofs.Common.{◌≡◌, refl, sym, ap, ◌∙◌, ℕ, suc, ◌+◌, ◌-◌, ◌≤◌, ◌<◌, Bool, true, false, [], ◌∷◌, ◌++◌, length, take, drop, arith}
use Rattle.std.specs.Prelude.{cond, count_by, reverse, not, ◌==◌}
use Rattle.std.proofs.lemmas.List.{length-drop, length-reverse, length-take, reverse-append, take-append-drop, take-take, take_all}
use Rattle.std.proofs.lemmas.List.Sums.{sum_by-append}
use Rattle.sg_kinds.specs.Values.{Bytes}
use Rattle.sg_text.specs.Bytes.{newline}
use Rattle.sg_text.specs.Lines.{line_at}
use Rattle.sg_place.specs.Shown.{left_len, line_len}

-- bytes of a line go on behind others that have no newline, and end at one of them
on_step : (b : Bool) (n l m k : ℕ) → (n ≡ l → k ≡ l + m) → cond b (1 + n) 0 ≡ suc l → cond b (1 + k) 0 ≡ suc l + m
on_step true n l m k more e =
    let same : n ≡ l = omega (arith, e) in
    omega (arith, more same)
on_step false n l m k more e = omega (arith, e)

goes_on : (xs ys : Bytes) → line_len xs ≡ length xs → line_len (xs ++ ys) ≡ length xs + line_len ys
goes_on [] ys e = omega arith
goes_on (x ∷ xs) ys e = on_step (not (x == newline)) (line_len xs) (length xs) (line_len ys) (line_len (xs ++ ys)) (goes_on xs ys) e

end_step : (b : Bool) (n l k : ℕ) → (n < l → k ≡ n) → cond b (1 + n) 0 < suc l → cond b (1 + k) 0 ≡ cond b (1 + n) 0
end_step true n l k same less =
    let fewer : n < l = omega (arith, less) in
    ap (λ m. 1 + m) (same fewer)
end_step false n l k same less = refl

ends : (xs ys : Bytes) → line_len xs < length xs → line_len (xs ++ ys) ≡ line_len xs
ends [] ys less = omega (arith, less)
ends (x ∷ xs) ys less = end_step (not (x == newline)) (line_len xs) (length xs) (line_len (xs ++ ys)) (ends xs ys) less

-- so it is of a line's bytes before a place, where those between an earlier place and it have no newline, or one
module _ (bytes : Bytes) (from at : ℕ) (less : from ≤ at) (within : at ≤ length bytes) where
  parts : take at bytes ≡ take from bytes ++ drop from (take at bytes)
  parts = sym (take-append-drop from (take at bytes)) ∙ ap (λ l. l ++ drop from (take at bytes)) (take-take from at bytes less)

  pub long : length (drop from (take at bytes)) ≡ at - from
  long = omega (arith, length-drop from (take at bytes), length-take at bytes)

  back : length (reverse (drop from (take at bytes))) ≡ at - from
  back = length-reverse (drop from (take at bytes)) ∙ long

  whole : left_len (drop from (take at bytes)) (at - from) ≡ line_len (reverse (drop from (take at bytes)))
  whole =
      let all : length (drop from (take at bytes)) ≤ at - from = omega (arith, long) in
      ap (λ l. line_len (reverse l)) (take_all (at - from) (drop from (take at bytes)) all)

  joined : left_len bytes at ≡ line_len (reverse (drop from (take at bytes)) ++ reverse (take from bytes))
  joined = ap (λ l. line_len (reverse l)) parts ∙ ap line_len (reverse-append (take from bytes) (drop from (take at bytes)))

  pub left_goes_on : left_len (drop from (take at bytes)) (at - from) ≡ at - from → left_len bytes at ≡ left_len bytes from + (at - from)
  left_goes_on e =
      let all : line_len (reverse (drop from (take at bytes))) ≡ length (reverse (drop from (take at bytes))) = omega (arith, whole, e, back) in
      omega (arith, joined, goes_on (reverse (drop from (take at bytes))) (reverse (take from bytes)) all, back)

  pub left_ends : left_len (drop from (take at bytes)) (at - from) < at - from → left_len bytes at ≡ left_len (drop from (take at bytes)) (at - from)
  left_ends less =
      let some : line_len (reverse (drop from (take at bytes))) < length (reverse (drop from (take at bytes))) = omega (arith, whole, less, back) in
      joined ∙ ends (reverse (drop from (take at bytes))) (reverse (take from bytes)) some ∙ sym whole

  pub line_goes_on : line_at bytes at ≡ line_at bytes from + count_by (λ b. b == newline) (drop from (take at bytes))
  line_goes_on =
      let all : count_by (λ b. b == newline) (take at bytes) ≡ count_by (λ b. b == newline) (take from bytes) + count_by (λ b. b == newline) (drop from (take at bytes)) =
      ap (count_by (λ b. b == newline)) parts ∙ sum_by-append (λ b. cond (b == newline) 1 0) (take from bytes) (drop from (take at bytes)) in
      omega (arith, all)
