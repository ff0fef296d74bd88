-- That no reply came past the block at which a run was cut short
use Rattle.std.proofs.Common.{◌≡◌, ◌≤◌, ◌⊎◌, ℕ, ◌+◌, List, [], ◌∷◌, ◌++◌, length, refl, sym, ap, ◌∙◌, subst, inl, inr, arith, length-append, append-nil, append_assoc}
use Rattle.sg_outside.specs.Count.{answered_by}
use Rattle.sg_replies.specs.declared.reply.Reply.{Reply}
use Rattle.sg_output.specs.declared.status.Status.{Status}
use Rattle.sg_output.specs.Output.{Output, before}
use Rattle.sg_output.specs.World.{World, WroteCounted}
use Rattle.sg_output.specs.Ran.{NonePast, Stopped}
use Rattle.sg_replies.specs.Counts.{CallsOrOneMore}
use Rattle.sg_replies.proofs.Laws.{calls_or_one_more_then}

-- no reply, or one that is asked for before anything is told
pub past_nothing : (k : ℕ) (f : List Reply → Output) → NonePast k f []
past_nothing k f front last e = let n : length {A = Reply} [] ≡ length (front ++ last ∷ []) = ap length e in absurd (omega (arith, n, length-append front (last ∷ [])))

pub past_one : (k : ℕ) (f : List Reply → Output) (reply : Reply) → length (f []).blocks ≤ k → NonePast k f (reply ∷ [])
past_one k f reply h [] last e = h
past_one k f reply h (x ∷ front) last e =
    let n : length (reply ∷ []) ≡ length (x ∷ front ++ last ∷ []) = ap length e in absurd (omega (arith, n, length-append front (last ∷ [])))

-- the last of some replies
last_of : (rs : List Reply) → (rs ≡ []) ⊎ ((front : List Reply) × (last : Reply) × (rs ≡ front ++ last ∷ []))
last_of [] = inl refl
last_of (r ∷ rs) = elim (last_of rs) [
  | inl none ↦ inr ([], r, ap (λ (xs : List Reply). r ∷ xs) none)
  | inr p ↦ inr (r ∷ p.0, p.1, ap (λ (xs : List Reply). r ∷ xs) p.2)
]

same_front : (rs ss : List Reply) (a b : Reply) → rs ++ a ∷ [] ≡ ss ++ b ∷ [] → rs ≡ ss
same_front [] [] a b e = refl
same_front [] (s ∷ ss) a b e = let n : length (a ∷ []) ≡ length (s ∷ ss ++ b ∷ []) = ap length e in absurd (omega (arith, n, length-append ss (b ∷ [])))
same_front (r ∷ rs) [] a b e = let n : length (r ∷ rs ++ a ∷ []) ≡ length (b ∷ []) = ap length e in absurd (omega (arith, n, length-append rs (a ∷ [])))
same_front (r ∷ rs) (s ∷ ss) a b e =
    let head : r ≡ s = cc in
    let tail : rs ++ a ∷ [] ≡ ss ++ b ∷ [] = cc in
    let rest = same_front rs ss a b tail in λ i. head i ∷ rest i

-- the run goes on over t
pub past_after : (f next : List Reply → Output) (t : Output) (k : ℕ) (got more : List Reply) → NonePast (length t.blocks) f got
    → ((rs : List Reply) → f (got ++ rs) ≡ before t (next rs)) → NonePast k next more → NonePast (length t.blocks + k) f (got ++ more)
past_after f next t k got more p law q front last e = elim (last_of more) [
  | inl none ↦ let h = p front last (sym (append-nil got) ∙ ap (λ (rs : List Reply). got ++ rs) (sym none) ∙ e) in omega (arith, h)
  | inr m ↦
      let same : got ++ m.0 ≡ front = same_front (got ++ m.0) front m.1 last (append_assoc got m.0 (m.1 ∷ []) ∙ ap (λ (rs : List Reply). got ++ rs) (sym m.2) ∙ e) in
      let h = q m.0 m.1 m.2 in
      let n : length (f front).blocks ≡ length (t.blocks ++ (next m.0).blocks) =
      ap (λ (rs : List Reply). length (f rs).blocks) (sym same) ∙ ap (λ (v : Output). length v.blocks) (law m.0) in
      omega (arith, h, n, length-append t.blocks (next m.0).blocks)
]

-- a call that had no memory, where the run goes on over t
pub calls_after : (old between new : World) (t u : Output) (k : ℕ) (got more : List Reply) → between.shelf.calls ≡ answered_by (length got) old.shelf.calls
    → CallsOrOneMore (length u.blocks ≤ k) (length more) between.shelf.calls new.shelf.calls
    → CallsOrOneMore (length (before t u).blocks ≤ length t.blocks + k) (length (got ++ more)) old.shelf.calls new.shelf.calls
calls_after old between new t u k got more first calls =
    subst (λ (n : ℕ). CallsOrOneMore (length (t.blocks ++ u.blocks) ≤ length t.blocks + k) n old.shelf.calls new.shelf.calls) (sym (length-append got more))
    (calls_or_one_more_then (length u.blocks ≤ k) (length (t.blocks ++ u.blocks) ≤ length t.blocks + k) (length got) (length more) old.shelf.calls between.shelf.calls new.shelf.calls
    (λ few. omega (arith, few, length-append t.blocks u.blocks)) first calls)

-- what is told is what f tells
pub stopped_as : (status : Status) (old new : World) (t : Output) (f : List Reply → Output) (got : List Reply) → f got ≡ t → (c : WroteCounted status old new t)
    → NonePast c.k f got → CallsOrOneMore (length t.blocks ≤ c.k) (length got) old.shelf.calls new.shelf.calls → Stopped status old new f got
stopped_as status old new t f got e =
    subst (λ (u : Output). (c : WroteCounted status old new u) → NonePast c.k f got → CallsOrOneMore (length u.blocks ≤ c.k) (length got) old.shelf.calls new.shelf.calls → Stopped status old new f got) e
    (λ c past calls. record { counted = c; none_past = past; calls = calls })
