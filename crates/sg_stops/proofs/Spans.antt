-- The tokens of a text end in order, and within it.
use Rattle.std.proofs.Common.{◌≡◌, ◌≤◌, ◌<◌, ◌+◌, ◌-◌, ◌∙◌, ℕ, List, length, take, drop, Option, Some, None, unwrap_or, get_or, ap, sym, subst, inl, inr, arith, Result, Ok, Err}
use Rattle.std.specs.Prelude.{All, AllPairs, IfOk, slice_get}
use Rattle.std.specs.Option.{option_map}
use Rattle.std.proofs.lemmas.List.{length-take, length-drop, take_all, get_or-take}
use Rattle.std.proofs.lemmas.List.Elements.{All-take}
use Rattle.std.proofs.lemmas.Bool.{cases_lt}
use Rattle.std.proofs.lemmas.Option.{slice_get_cases, get_or_from_slice_get}
use Rattle.sg_kinds.specs.Values.{Bytes}
use Rattle.sg_text.specs.declared.tokens.Token.{Token}
use Rattle.sg_text.specs.Cut.{declaration_len}
use Rattle.sg_text.specs.Placed.{IsTokenOf, EndsBefore}
use Rattle.sg_text.specs.Tokens.{tokens_of}
use Rattle.sg_text.proofs.TokenLaws.{tokens_of-all, tokens_of-ordered}
use Rattle.sg_mends.specs.declared.changes.Mends.{Mends}
use Rattle.sg_mends.specs.Mends.{IsMends}
use Rattle.sg_stops.specs.Stops.{TellsStop, end_of, first_of, from_of, stop_text, to_of}

-- of tokens in order the last one ends within the text, and no other behind it
last_ends : (bytes : Bytes) (ts : List Token) (k : ℕ) (t u : Token) → All (IsTokenOf bytes) ts → AllPairs EndsBefore ts → k < length ts
    → slice_get ts k ≡ Some t → slice_get ts (length ts - 1) ≡ Some u → (t.from ≤ u.to) × (t.to ≤ u.to)
last_ends bytes ts k t u each ordered inside at_k at_end =
    let n = length ts - 1 in
    let here : get_or ts k t ≡ t = get_or_from_slice_get ts k t t at_k in
    let last : get_or ts n t ≡ u = get_or_from_slice_get ts n u t at_end in
    let first : (get_or ts k t).from < (get_or ts k t).to = (each k t inside).some in
    let some : (get_or ts n t).from < (get_or ts n t).to = (each n t (omega (arith, inside))).some in
    let from : t.from ≡ (get_or ts k t).from = ap (λ (x : Token). x.from) (sym here) in
    let to : t.to ≡ (get_or ts k t).to = ap (λ (x : Token). x.to) (sym here) in
    let end : u.to ≡ (get_or ts n t).to = ap (λ (x : Token). x.to) (sym last) in
    elim (cases_lt k n) [
      | inl less ↦
          let before : (get_or ts k t).to ≤ (get_or ts n t).from = ordered k n t less (omega (arith, inside)) in
          (omega (arith, before, first, some, from, end), omega (arith, before, some, to, end))
      | inr more ↦
          let same : (get_or ts k t).to ≡ (get_or ts n t).to = ap (λ (i : ℕ). (get_or ts i t).to) (let e : k ≡ n = omega (arith, more, inside) in e) in
          (omega (arith, same, first, from, end), omega (arith, same, to, end))
    ]

from_at : (ts : List Token) (k : ℕ) (o : Option Token) → slice_get ts k ≡ o → from_of ts k ≡ unwrap_or (option_map (λ (t : Token). t.from) o) (end_of ts)
unfolding from_of
from_at ts k o is = ap (λ (o : Option Token). unwrap_or (option_map (λ (t : Token). t.from) o) (end_of ts)) is

to_at : (ts : List Token) (k : ℕ) (o : Option Token) → slice_get ts k ≡ o → to_of ts k ≡ unwrap_or (option_map (λ (t : Token). t.to) o) (end_of ts)
unfolding to_of
to_at ts k o is = ap (λ (o : Option Token). unwrap_or (option_map (λ (t : Token). t.to) o) (end_of ts)) is

end_at : (ts : List Token) (o : Option Token) → slice_get ts (length ts - 1) ≡ o → end_of ts ≡ unwrap_or (option_map (λ (t : Token). t.to) o) 0
unfolding end_of
end_at ts o is = ap (λ (o : Option Token). unwrap_or (option_map (λ (t : Token). t.to) o) 0) is

span_within : (bytes : Bytes) (ts : List Token) (k : ℕ) → All (IsTokenOf bytes) ts → AllPairs EndsBefore ts → (from_of ts k ≤ end_of ts) × (to_of ts k ≤ end_of ts)
span_within bytes ts k each ordered = elim (slice_get_cases ts k).1 [
  | inr past ↦ (omega (arith, from_at ts k None past.1), omega (arith, to_at ts k None past.1))
  | inl t ↦ elim (slice_get_cases ts (length ts - 1)).1 [
    | inr past ↦ absurd (omega (arith, t.1, past.0))
    | inl u ↦
        let last = last_ends bytes ts k t.0 u.0 each ordered t.1 t.2 u.2 in
        let end = end_at ts (Some u.0) u.2 in
        (omega (arith, from_at ts k (Some t.0) t.2, end, last.0), omega (arith, to_at ts k (Some t.0) t.2, end, last.1))
  ]
]

end_within : (bytes : Bytes) (ts : List Token) → All (IsTokenOf bytes) ts → end_of ts ≤ length bytes
end_within bytes ts each = elim (slice_get_cases ts (length ts - 1)).1 [
  | inr past ↦ omega (arith, end_at ts None past.1)
  | inl u ↦
      let last : get_or ts (length ts - 1) u.0 ≡ u.0 = u.3 in
      let to : (get_or ts (length ts - 1) u.0).to ≡ u.0.to = ap (λ (x : Token). x.to) last in
      omega (arith, end_at ts (Some u.0) u.2, to, (each (length ts - 1) u.0 u.1).within)
]

ordered_take : (n : ℕ) (ts : List Token) → AllPairs EndsBefore ts → AllPairs EndsBefore (take n ts)
ordered_take n ts ordered = λ i j d less within.
    let short = length-take n ts in
    let a : get_or (take n ts) i d ≡ get_or ts i d = get_or-take n ts i d (omega (arith, short, less, within)) in
    let b : get_or (take n ts) j d ≡ get_or ts j d = get_or-take n ts j d (omega (arith, short, within)) in
    let to : (get_or (take n ts) i d).to ≡ (get_or ts i d).to = ap (λ (x : Token). x.to) a in
    let from : (get_or (take n ts) j d).from ≡ (get_or ts j d).from = ap (λ (x : Token). x.from) b in
    let before : (get_or ts i d).to ≤ (get_or ts j d).from = ordered i j d less (omega (arith, short, within)) in
    omega (arith, to, from, before)

-- the tokens of the first declaration of a text
first_within : (bytes : Bytes) (ts : List Token) (k : ℕ) → tokens_of bytes ≡ Ok ts → (from_of (first_of ts) k ≤ end_of (first_of ts)) × (to_of (first_of ts) k ≤ end_of (first_of ts)) × (end_of (first_of ts) ≤ length bytes)
unfolding first_of
first_within bytes ts k is =
    let each : All (IsTokenOf bytes) (first_of ts) = All-take (IsTokenOf bytes) (declaration_len 0 ts) ts (tokens_of-all bytes ts is) in
    let ordered : AllPairs EndsBefore (first_of ts) = ordered_take (declaration_len 0 ts) ts (tokens_of-ordered bytes ts is) in
    let span = span_within bytes (first_of ts) k each ordered in
    (span.0, span.1, end_within bytes (first_of ts) each)

-- A declaration ds from the byte `at` on, its end, and where its k-th token stands.

pub end_bound : (bytes : Bytes) (at : ℕ) (ts ds : List Token) (end : ℕ) → tokens_of (drop at bytes) ≡ Ok ts → ds ≡ first_of ts → end ≡ end_of ds
    → end ≡ length (take end (take (length bytes - at) (drop at bytes)))
end_bound bytes at ts ds end is first ended =
    let there = (first_within (drop at bytes) ts 0 is).2 in
    let same : end ≡ end_of (first_of ts) = ended ∙ ap end_of first in
    let rest = take (length bytes - at) (drop at bytes) in
    omega (arith, there, same, length-take end rest, length-take (length bytes - at) (drop at bytes), length-drop at bytes)

pub from_bound : (bytes : Bytes) (at : ℕ) (ts ds : List Token) (k end from : ℕ) → tokens_of (drop at bytes) ≡ Ok ts → ds ≡ first_of ts → end ≡ end_of ds → from ≡ from_of ds k
    → from ≤ length (take end (take (length bytes - at) (drop at bytes)))
from_bound bytes at ts ds k end from is first ended begins =
    let before = (first_within (drop at bytes) ts k is).0 in
    let same : end ≡ end_of (first_of ts) = ended ∙ ap end_of first in
    let here : from ≡ from_of (first_of ts) k = begins ∙ ap (λ (xs : List Token). from_of xs k) first in
    omega (arith, before, same, here, end_bound bytes at ts ds end is first ended)

pub to_bound : (bytes : Bytes) (at : ℕ) (ts ds : List Token) (k end to : ℕ) → tokens_of (drop at bytes) ≡ Ok ts → ds ≡ first_of ts → end ≡ end_of ds → to ≡ to_of ds k
    → to ≤ length (take end (take (length bytes - at) (drop at bytes)))
to_bound bytes at ts ds k end to is first ended ends =
    let before = (first_within (drop at bytes) ts k is).1 in
    let same : end ≡ end_of (first_of ts) = ended ∙ ap end_of first in
    let here : to ≡ to_of (first_of ts) k = ends ∙ ap (λ (xs : List Token). to_of xs k) first in
    omega (arith, before, same, here, end_bound bytes at ts ds end is first ended)

pub place_bound : (bytes : Bytes) (at : ℕ) (ts ds : List Token) (k from : ℕ) → tokens_of (drop at bytes) ≡ Ok ts → ds ≡ first_of ts → from ≡ from_of ds k → at ≤ length bytes
    → at + from ≤ length bytes
place_bound bytes at ts ds k from is first begins inside =
    let within = first_within (drop at bytes) ts k is in
    let here : from ≡ from_of (first_of ts) k = begins ∙ ap (λ (xs : List Token). from_of xs k) first in
    omega (arith, within.0, within.2, here, length-drop at bytes, inside)

pub tells : (bytes : Bytes) (at : ℕ) (ts ds : List Token) (k end from to : ℕ) (m : Mends) (text : Bytes) → tokens_of (drop at bytes) ≡ Ok ts → ds ≡ first_of ts → end ≡ end_of ds
    → from ≡ from_of ds k → to ≡ to_of ds k → IsMends (take end (take (length bytes - at) (drop at bytes))) from to m → text ≡ stop_text bytes (at + from) m → TellsStop bytes at text
tells bytes at ts ds k end from to m text is first ended begins ends mends told =
    let whole : take (length bytes - at) (drop at bytes) ≡ drop at bytes = take_all (length bytes - at) (drop at bytes) (omega (arith, length-drop at bytes)) in
    let end_is : end ≡ end_of (first_of ts) = ended ∙ ap end_of first in
    let from_is : from ≡ from_of (first_of ts) k = begins ∙ ap (λ (xs : List Token). from_of xs k) first in
    let to_is : to ≡ to_of (first_of ts) k = ends ∙ ap (λ (xs : List Token). to_of xs k) first in
    let P : Bytes → Type 0 = λ b. IsMends (take end b) from to m in
    let Q : ℕ → Type 0 = λ n. IsMends (take n (drop at bytes)) from to m in
    let R : ℕ → Type 0 = λ n. IsMends (take (end_of (first_of ts)) (drop at bytes)) n to m in
    let S : ℕ → Type 0 = λ n. IsMends (take (end_of (first_of ts)) (drop at bytes)) (from_of (first_of ts) k) n m in
    record {
      tokens = ts;
      are = is;
      stop = k;
      mends = m;
      mended = subst S to_is (subst R from_is (subst Q end_is (subst P whole mends)));
      is = told ∙ ap (λ (n : ℕ). stop_text bytes (at + n) m) from_is;
    }

-- what one fact says of a value that is there, where another says it
pub if_told : {A E : Type 0} {P Q : A → Type 0} (r : Result A E) → IfOk r P → ((a : A) → P a → Q a) → IfOk r Q
if_told (Ok a) is next = next a is
if_told (Err e) is next = tt
