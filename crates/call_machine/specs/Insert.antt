-- Making an entry: a free slot is claimed from the cursor on, its words are stored, and it is put at the head of the bucket.
use Rattle.std.specs.Prelude.{ℕ, ◌+◌, ◌||◌, ◌==◌, if◌then◌else◌, List, Option, Some, None}
use Rattle.text_words.specs.Words.{word_at}
use Rattle.marked_word.specs.Head.{is_locked, is_redirected, first_of}
use Rattle.intern_log.specs.declared.event.Handle.{Handle}
use Rattle.atomic_step.specs.declared.answer.Answer.{Answer}
use Rattle.atomic_step.specs.declared.answer.Answer.TheVariants as answer
use Rattle.atomic_step.specs.declared.step.Step.TheVariants as step
use Rattle.call_machine.specs.declared.stage.Along.{Along}
use Rattle.call_machine.specs.declared.stage.Asked.{Asked}
use Rattle.call_machine.specs.declared.stage.CallStage.{CallStage}
use Rattle.call_machine.specs.declared.stage.CallStage.TheVariants as stage
use Rattle.call_machine.specs.declared.insert.InsertStage.{InsertStage}
use Rattle.call_machine.specs.declared.insert.InsertStage.TheVariants.{Claim, OwnCount, PutMeta, PutText, PutLink, PutCount, Create}
use Rattle.call_machine.specs.declared.stage.Goal.{Goal}
use Rattle.call_machine.specs.declared.stage.Goal.TheVariants.{InternWait}
use Rattle.call_machine.specs.declared.leave.LeaveStage.TheVariants.{UndoCount}
use Rattle.call_machine.specs.declared.leave.Then.TheVariants as next
use Rattle.atomic_step.specs.Count.{handle_at}
use Rattle.call_machine.specs.Sought.{meta_of, has_word}
use Rattle.atomic_step.specs.Turn.{Row, row}
use Rattle.call_machine.specs.Leave.{tries_again, leaves_with}

-- the slot after a slot, and after the last one the first
abbrev pub next_slot : ℕ → ℕ → ℕ
next_slot slots slot = if slot + 1 == slots then 0 else slot + 1

-- in the slot that is kept, or in the first free one from the cursor on
abbrev pub inserts : Option Handle → ℕ → InsertStage
inserts None cursor = Claim cursor 0
inserts (Some h) cursor = PutLink h

-- the slot was not free: the next one is tried, until each was
abbrev pub not_claimed : Asked → Along → ℕ → ℕ → CallStage
not_claimed q w slot tried =
    if tried + 1 == q.shape.slots then leaves_with w.kept answer.NoSlot
    else stage.Insert (Claim (next_slot q.shape.slots slot) (tried + 1))

-- the words of the text are stored from one on, and after them the link
abbrev pub puts_from : List ℕ → Handle → ℕ → InsertStage
puts_from text h at = if has_word text at then PutText h at else PutLink h

-- after the link comes the count, which a slot that was kept has already
abbrev pub after_link : Option Handle → Handle → InsertStage
after_link None h = PutCount h
after_link (Some kept) h = Create h

-- another head was found: the intern that waits keeps its slot, and the other gives it back
abbrev pub not_created : Along → Goal → Handle → Answer → Along × CallStage
not_created w InternWait h a = (record w { kept = Some h }, tries_again)
not_created w _ h a = (w, stage.Leave (UndoCount h (next.Answer a)))

-- what an exchange says that found another head
abbrev pub lost_head : ℕ → Answer
lost_head word = if is_locked word || is_redirected word then answer.Locked else answer.Again

-- the exchange of the head found a word: the entry is made, or another was faster
abbrev pub created : Along → Goal → Handle → ℕ → Along × CallStage
created w goal h word = if word == w.walk.head then (record w { kept = None }, leaves_with None (answer.Created h)) else not_created w goal h (lost_head word)

-- what each stage does
abbrev pub insert_row : Asked → Along → InsertStage → Row (Along × CallStage)
insert_row q w (Claim slot tried) = row (step.ClaimSlot slot) (λ word.
    if word == 0 then (record w { cursor = next_slot q.shape.slots slot }, stage.Insert (OwnCount slot)) else (w, not_claimed q w slot tried))
insert_row q w (OwnCount slot) = row (step.LoadCount slot) (λ word. (w, stage.Insert (PutMeta (handle_at slot word))))
insert_row q w (PutMeta h) = row (step.PutMeta h.slot (meta_of q.seed q.text)) (λ word. (w, stage.Insert (puts_from q.text h 0)))
insert_row q w (PutText h at) = row (step.PutText h.slot at (word_at q.text at)) (λ word. (w, stage.Insert (puts_from q.text h (at + 1))))
insert_row q w (PutLink h) = row (step.PutLink h.slot (first_of w.walk.head)) (λ word. (w, stage.Insert (after_link w.kept h)))
insert_row q w (PutCount h) = row (step.PutCount h 1) (λ word. (w, stage.Insert (Create h)))
insert_row q w (Create h) = row (step.CreateEntry h w.walk.row w.walk.bucket w.walk.head) (λ word. created w q.goal h word)
