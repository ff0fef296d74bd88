-- Commands that are done alike.
use Rattle.std.specs.Prelude.{◌≡◌, ◌⊎◌, ℕ, true, false, ◌&&◌, nat_lt, Option}
use Rattle.std.proofs.Common.{ap, inl, inr}
use Rattle.sg_kinds.specs.Values.{Bytes}
use Rattle.sg_kinds.specs.declared.spec.Spec.{Spec}
use Rattle.sg_changes.specs.Captured.{Captured}
use Rattle.sg_script.specs.declared.message.Message.TheVariants as message
use Rattle.sg_script.specs.declared.command.Command.{Command}
use Rattle.sg_script.specs.declared.command.Command.TheVariants as command
use Rattle.sg_states.specs.States.{State}
use Rattle.sg_edits.specs.declared.clip.Clip.{Clip}
use Rattle.sg_commands.specs.Turn.{Reads, refused_if, says}
use Rattle.sg_commands.specs.Turns.{allowed_turn, count_here, plain_turn, typing_turn, wants_one}

-- of sessions and files
abbrev pub StaysThere : Command → Type 0
StaysThere k = ((x : Bytes) × (k ≡ command.New x))
    ⊎ (((x : Bytes) × (y : Bytes) × (k ≡ command.Load x y))
    ⊎ (((x : Bytes) × (k ≡ command.Switch x))
    ⊎ ((k ≡ command.Show)
    ⊎ (((x : Bytes) × (k ≡ command.Save x))
    ⊎ (((x : Bytes) × (k ≡ command.SaveText x)))))))

-- of a text that is being typed
abbrev pub WantsText : Command → Type 0
WantsText k = (k ≡ command.Erase)
    ⊎ ((k ≡ command.Enter)
    ⊎ ((k ≡ command.Abandon)))

-- those that wait while a text is being typed
abbrev pub Waits : Command → Type 0
Waits k = (k ≡ command.Next)
    ⊎ ((k ≡ command.Prev)
    ⊎ ((k ≡ command.Up)
    ⊎ ((k ≡ command.First)
    ⊎ ((k ≡ command.Sibling)
    ⊎ (((x : ℕ) × (y : ℕ) × (k ≡ command.Goto x y))
    ⊎ ((k ≡ command.Extend)
    ⊎ ((k ≡ command.Shrink)
    ⊎ (((x : Bytes) × (k ≡ command.Find x))
    ⊎ (((x : Bytes) × (k ≡ command.Do x))
    ⊎ (((x : Bytes) × (k ≡ command.ReplaceAll x))
    ⊎ ((k ≡ command.Delete)
    ⊎ ((k ≡ command.Remove)
    ⊎ ((k ≡ command.InsertBefore)
    ⊎ ((k ≡ command.InsertAfter)
    ⊎ ((k ≡ command.Cut)
    ⊎ ((k ≡ command.Copy)
    ⊎ ((k ≡ command.Paste)
    ⊎ (((x : Bytes) × (k ≡ command.Text x))
    ⊎ ((k ≡ command.Alternate)
    ⊎ ((k ≡ command.Elide)
    ⊎ ((k ≡ command.Undo)
    ⊎ ((k ≡ command.Redo)
    ⊎ (((x : Option Bytes) × (k ≡ command.View x)))))))))))))))))))))))))

module _ (spec : Spec) (height : ℕ) (reads : Reads) (clip : Option Clip) (st : State) (k : Command) where
  pub allowed_stays : StaysThere k → allowed_turn spec height reads clip st k ≡ says clip message.Fine st
  allowed_stays (inl e) = ap (allowed_turn spec height reads clip st) e.1
  allowed_stays (inr (inl e)) = ap (allowed_turn spec height reads clip st) e.2
  allowed_stays (inr (inr (inl e))) = ap (allowed_turn spec height reads clip st) e.1
  allowed_stays (inr (inr (inr (inl e)))) = ap (allowed_turn spec height reads clip st) e
  allowed_stays (inr (inr (inr (inr (inl e))))) = ap (allowed_turn spec height reads clip st) e.1
  allowed_stays (inr (inr (inr (inr (inr e))))) = ap (allowed_turn spec height reads clip st) e.1

  pub allowed_wants : WantsText k → allowed_turn spec height reads clip st k ≡ says clip message.NotInText st
  allowed_wants (inl e) = ap (allowed_turn spec height reads clip st) e
  allowed_wants (inr (inl e)) = ap (allowed_turn spec height reads clip st) e
  allowed_wants (inr (inr e)) = ap (allowed_turn spec height reads clip st) e

  -- where a command wants one node, and where one is selected
  pub plain_refused : (wants_one k && nat_lt 1 (count_here st)) ≡ true → plain_turn spec height reads clip st k ≡ says clip message.InRun st
  plain_refused is = ap (λ b. refused_if clip st b message.InRun (allowed_turn spec height reads clip st k)) is

  pub plain_allowed : (wants_one k && nat_lt 1 (count_here st)) ≡ false → plain_turn spec height reads clip st k ≡ allowed_turn spec height reads clip st k
  plain_allowed is = ap (λ b. refused_if clip st b message.InRun (allowed_turn spec height reads clip st k)) is

  module _ (c : Captured) where
    pub typing_stays : StaysThere k → typing_turn spec height reads clip st c k ≡ says clip message.Fine st
    typing_stays (inl e) = ap (typing_turn spec height reads clip st c) e.1
    typing_stays (inr (inl e)) = ap (typing_turn spec height reads clip st c) e.2
    typing_stays (inr (inr (inl e))) = ap (typing_turn spec height reads clip st c) e.1
    typing_stays (inr (inr (inr (inl e)))) = ap (typing_turn spec height reads clip st c) e
    typing_stays (inr (inr (inr (inr (inl e))))) = ap (typing_turn spec height reads clip st c) e.1
    typing_stays (inr (inr (inr (inr (inr e))))) = ap (typing_turn spec height reads clip st c) e.1

    pub typing_waits : Waits k → typing_turn spec height reads clip st c k ≡ says clip message.InText st
    typing_waits (inl e) = ap (typing_turn spec height reads clip st c) e
    typing_waits (inr (inl e)) = ap (typing_turn spec height reads clip st c) e
    typing_waits (inr (inr (inl e))) = ap (typing_turn spec height reads clip st c) e
    typing_waits (inr (inr (inr (inl e)))) = ap (typing_turn spec height reads clip st c) e
    typing_waits (inr (inr (inr (inr (inl e))))) = ap (typing_turn spec height reads clip st c) e
    typing_waits (inr (inr (inr (inr (inr (inl e)))))) = ap (typing_turn spec height reads clip st c) e.2
    typing_waits (inr (inr (inr (inr (inr (inr (inl e))))))) = ap (typing_turn spec height reads clip st c) e
    typing_waits (inr (inr (inr (inr (inr (inr (inr (inl e)))))))) = ap (typing_turn spec height reads clip st c) e
    typing_waits (inr (inr (inr (inr (inr (inr (inr (inr (inl e))))))))) = ap (typing_turn spec height reads clip st c) e.1
    typing_waits (inr (inr (inr (inr (inr (inr (inr (inr (inr (inl e)))))))))) = ap (typing_turn spec height reads clip st c) e.1
    typing_waits (inr (inr (inr (inr (inr (inr (inr (inr (inr (inr (inl e))))))))))) = ap (typing_turn spec height reads clip st c) e.1
    typing_waits (inr (inr (inr (inr (inr (inr (inr (inr (inr (inr (inr (inl e)))))))))))) = ap (typing_turn spec height reads clip st c) e
    typing_waits (inr (inr (inr (inr (inr (inr (inr (inr (inr (inr (inr (inr (inl e))))))))))))) = ap (typing_turn spec height reads clip st c) e
    typing_waits (inr (inr (inr (inr (inr (inr (inr (inr (inr (inr (inr (inr (inr (inl e)))))))))))))) = ap (typing_turn spec height reads clip st c) e
    typing_waits (inr (inr (inr (inr (inr (inr (inr (inr (inr (inr (inr (inr (inr (inr (inl e))))))))))))))) = ap (typing_turn spec height reads clip st c) e
    typing_waits (inr (inr (inr (inr (inr (inr (inr (inr (inr (inr (inr (inr (inr (inr (inr (inl e)))))))))))))))) = ap (typing_turn spec height reads clip st c) e
    typing_waits (inr (inr (inr (inr (inr (inr (inr (inr (inr (inr (inr (inr (inr (inr (inr (inr (inl e))))))))))))))))) = ap (typing_turn spec height reads clip st c) e
    typing_waits (inr (inr (inr (inr (inr (inr (inr (inr (inr (inr (inr (inr (inr (inr (inr (inr (inr (inl e)))))))))))))))))) = ap (typing_turn spec height reads clip st c) e
    typing_waits (inr (inr (inr (inr (inr (inr (inr (inr (inr (inr (inr (inr (inr (inr (inr (inr (inr (inr (inl e))))))))))))))))))) = ap (typing_turn spec height reads clip st c) e.1
    typing_waits (inr (inr (inr (inr (inr (inr (inr (inr (inr (inr (inr (inr (inr (inr (inr (inr (inr (inr (inr (inl e)))))))))))))))))))) = ap (typing_turn spec height reads clip st c) e
    typing_waits (inr (inr (inr (inr (inr (inr (inr (inr (inr (inr (inr (inr (inr (inr (inr (inr (inr (inr (inr (inr (inl e))))))))))))))))))))) = ap (typing_turn spec height reads clip st c) e
    typing_waits (inr (inr (inr (inr (inr (inr (inr (inr (inr (inr (inr (inr (inr (inr (inr (inr (inr (inr (inr (inr (inr (inl e)))))))))))))))))))))) = ap (typing_turn spec height reads clip st c) e
    typing_waits (inr (inr (inr (inr (inr (inr (inr (inr (inr (inr (inr (inr (inr (inr (inr (inr (inr (inr (inr (inr (inr (inr (inl e))))))))))))))))))))))) = ap (typing_turn spec height reads clip st c) e
    typing_waits (inr (inr (inr (inr (inr (inr (inr (inr (inr (inr (inr (inr (inr (inr (inr (inr (inr (inr (inr (inr (inr (inr (inr e))))))))))))))))))))))) = ap (typing_turn spec height reads clip st c) e.1
