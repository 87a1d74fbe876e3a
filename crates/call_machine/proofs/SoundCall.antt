-- A sound call stays sound by each word that it may be told.
use Rattle.std.proofs.Common.{◌≡◌, ◌<◌, ◌≤◌, ◌^◌, ◌+◌, ◌*◌, ◌/◌, ℕ, Option, Some, None, refl, length, ◌==◌}
use Rattle.std.specs.Prelude.{nat_le, IfSome}
use Rattle.std.proofs.Math.Nat.{mod-lt}
use Rattle.std.proofs.lemmas.Bool.{ltb-true}
use Rattle.std.proofs.lemmas.Nat.{pow_pos}
use native.Mathlib.Omega.{arith}
use Rattle.text_words.specs.Words.{words_of, word_at}
use Rattle.text_words.proofs.Hashes.{hash_of_32}
use Rattle.marked_word.specs.Head.{is_locked, is_redirected, first_of}
use Rattle.marked_word.specs.Link.{node_of}
use Rattle.marked_word.specs.Meta.{meta_word, length_in}
use Rattle.marked_word.specs.Number.{new_level_of}
use Rattle.intern_log.specs.declared.event.Handle.{Handle}
use Rattle.intern_log.specs.declared.event.Kind.TheVariants.{Counted, Weak}
use Rattle.atomic_step.specs.declared.answer.Answer.{Answer}
use Rattle.atomic_step.specs.declared.answer.Answer.TheVariants as answer
use Rattle.atomic_step.specs.declared.count.Change.{Change}
use Rattle.atomic_step.specs.declared.count.Change.TheVariants as change
use Rattle.atomic_step.specs.Count.{holds_of, handle_at, is_live}
use Rattle.atomic_step.specs.SoundStep.{IsHeadWord, IsHeldCount}
use Rattle.atomic_step.proofs.Choices.{where_it_is, either_way, not_equal}
use Rattle.call_machine.specs.declared.draw.DrawStage.TheVariants as draw
use Rattle.call_machine.specs.declared.enter.EnterStage.TheVariants.{LoadCounter, OpenSection}
use Rattle.call_machine.specs.declared.find.FindStage.TheVariants as find
use Rattle.call_machine.specs.declared.handle.HandleStage.TheVariants as handle
use Rattle.call_machine.specs.declared.insert.InsertStage.TheVariants as insert
use Rattle.call_machine.specs.declared.leave.LeaveStage.TheVariants as leave
use Rattle.call_machine.specs.declared.leave.Then.TheVariants as next
use Rattle.call_machine.specs.declared.node.NodeStage.TheVariants as node
use Rattle.call_machine.specs.declared.read.ReadStage.TheVariants as read
use Rattle.call_machine.specs.declared.stage.Along.{Along}
use Rattle.call_machine.specs.declared.stage.Asked.{Asked}
use Rattle.call_machine.specs.declared.stage.Calling.{Calling}
use Rattle.call_machine.specs.declared.stage.CallStage.{CallStage}
use Rattle.call_machine.specs.declared.stage.CallStage.TheVariants as stage
use Rattle.call_machine.specs.declared.stage.Goal.{Goal}
use Rattle.call_machine.specs.declared.stage.Goal.TheVariants.{Lookup, Intern, InternWait}
use Rattle.call_machine.specs.Calls.{next_at, got_of, finds}
use Rattle.call_machine.specs.Insert.{inserts, next_slot, not_claimed, puts_from, after_link, lost_head}
use Rattle.call_machine.specs.Handle.{count_found}
use Rattle.call_machine.specs.Leave.{leaves_with, loses_with}
use Rattle.call_machine.specs.Node.{compares_from, comes_to, end_of, met, passes}
use Rattle.call_machine.specs.Read.{reads_from}
use Rattle.call_machine.specs.SoundCall.{IsSoundAsked, IsSoundAlong, IsSoundCall, IsSoundAt, FitsAt, FitsCall, IsInChain, IsHandle}
use Rattle.call_machine.specs.Sought.{has_word, meta_of}
use Rattle.call_machine.proofs.Nodes.{node_below}
use Rattle.call_machine.proofs.Walked.{counts, gives_up, reads}

-- the next stages of each family; the slot that is kept is that of before
leaves : (q : Asked) (w : Along) (kept : Option Handle) (a : Answer) → IsSoundAsked q → IfSome kept (IsHandle q.shape) → w.kept ≡ kept → IsSoundAt q w (leaves_with kept a)
leaves q w None a asked own is = ((asked.number, tt, tt, refl), is)
leaves q w (Some h) a asked own is = ((own.0, own.1, tt, tt), tt)

loses : (q : Asked) (w : Along) (goal : Goal) → IsSoundAsked q → IfSome w.kept (IsHandle q.shape) → IsSoundAt q w (loses_with goal w.kept answer.Again)
loses q w InternWait asked own = ((asked.number, tt, tt, refl), tt)
loses q w Lookup asked own = leaves q w w.kept answer.Again asked own refl
loses q w Intern asked own = leaves q w w.kept answer.Again asked own refl

begins_insert : (q : Asked) (w : Along) (kept : Option Handle) (cursor : ℕ) → IsInChain q.shape w.walk → cursor < q.shape.slots → IfSome kept (IsHandle q.shape) → w.kept ≡ kept → IsSoundAt q w (stage.Insert (inserts kept cursor))
begins_insert q w None cursor chain below own is = ((below, tt, tt, tt), (chain, (is, omega (arith, below))))
begins_insert q w (Some h) cursor chain below own is = ((own.0, tt, node_below q.shape (w.walk.head / 4) chain.2, tt), (chain, own))

ends : (q : Asked) (w : Along) (kept : Option Handle) (cursor head : ℕ) (goal : Goal) → IsSoundAsked q → IsInChain q.shape w.walk → cursor < q.shape.slots → IfSome kept (IsHandle q.shape) → w.kept ≡ kept → IsSoundAt q w (end_of kept cursor head goal)
ends q w kept cursor head Lookup asked chain below own is = leaves q w kept answer.Miss asked own is
ends q w kept cursor head Intern asked chain below own is = either_way (IsSoundAt q w) (is_locked head) _ _ (leaves q w kept answer.Locked asked own is) (begins_insert q w kept cursor chain below own is)
ends q w kept cursor head InternWait asked chain below own is = either_way (IsSoundAt q w) (is_locked head) _ _ ((asked.number, tt, tt, refl), tt) (begins_insert q w kept cursor chain below own is)

comes : (q : Asked) (v w : Along) (head : ℕ) (x : Option ℕ) → IsSoundAsked q → IsInChain q.shape w.walk → IsSoundAlong q.shape v → w.kept ≡ v.kept → IfSome x (λ x. x < q.shape.slots) → IsSoundAt q w (comes_to q v head x)
comes q v w head None asked chain along is x = ends q w v.kept v.cursor head q.goal asked chain along.0 along.1 is
comes q v w head (Some n) asked chain along is x = ((x, tt, tt, tt), (chain, tt))

arrives : (q : Asked) (v w : Along) (word : ℕ) → IsSoundAsked q → IsInChain q.shape w.walk → IsSoundAlong q.shape v → w.kept ≡ v.kept → IsHeadWord q.shape word → IsSoundAt q w (comes_to q v word (first_of word))
arrives q v w word asked chain along is fits = comes q v w word (first_of word) asked chain along is (node_below q.shape (word / 4) fits)

next_below : (slots slot : ℕ) → slot < slots → next_slot slots slot < slots
next_below slots slot below =
    where_it_is (λ n. n < slots) (slot + 1 == slots) 0 (slot + 1) (λ e. omega (arith, below)) (λ e. let other = not_equal (slot + 1) slots e in omega (arith, below, other))

-- a text that fits has its words inside a slot
word_inside : (words len at : ℕ) → at < words_of len → len ≤ 8 * words → at < words
word_inside words len at below fits = omega (arith, below, fits)

compares : (q : Asked) (w : Along) (x at : ℕ) → IsSoundAsked q → IsInChain q.shape w.walk → x < q.shape.slots → IsSoundAt q w (stage.Node (compares_from q.text x at))
compares q w x at asked chain below =
    where_it_is (λ s. IsSoundAt q w (stage.Node s)) (has_word q.text at) _ _
    (λ e. let more = ltb-true at (words_of (length q.text)) e in (((below, word_inside q.shape.text_words (length q.text) at more asked.room.1), tt, tt, tt), (chain, more))) (λ e. ((below, tt, tt, tt), (chain, tt)))

puts : (q : Asked) (w : Along) (h : Handle) (at : ℕ) → IsSoundAsked q → IsInChain q.shape w.walk → w.kept ≡ None → IsHandle q.shape h → IsSoundAt q w (stage.Insert (puts_from q.text h at))
puts q w h at asked chain none own =
    where_it_is (λ s. IsSoundAt q w (stage.Insert s)) (has_word q.text at) _ _
    (λ e. let more = ltb-true at (words_of (length q.text)) e in (((own.0, word_inside q.shape.text_words (length q.text) at more asked.room.1), tt, tt, tt), (chain, (none, own, more))))
    (λ e. ((own.0, tt, node_below q.shape (w.walk.head / 4) chain.2, tt), (chain, own)))

creates : (q : Asked) (w : Along) (h : Handle) → IsInChain q.shape w.walk → IsHandle q.shape h → IsSoundAt q w (stage.Insert (insert.Create h))
creates q w h chain own = (((chain.0.0, chain.0.1, chain.1), tt, own.0, tt), (chain, own))

links : (q : Asked) (w : Along) (kept : Option Handle) (h : Handle) → IsInChain q.shape w.walk → w.kept ≡ kept → IsHandle q.shape h → IsSoundAt q w (stage.Insert (after_link kept h))
links q w None h chain is own = ((own.0, own.1, tt, tt), (chain, (is, own)))
links q w (Some k) h chain is own = creates q w h chain own

claims : (q : Asked) (w : Along) (slot tried : ℕ) → IsSoundAsked q → IsSoundAlong q.shape w → IsInChain q.shape w.walk → w.kept ≡ None → slot < q.shape.slots → tried < q.shape.slots → IsSoundAt q w (not_claimed q w slot tried)
claims q w slot tried asked along chain none below few =
    where_it_is (IsSoundAt q w) (tried + 1 == q.shape.slots) _ _
    (λ e. leaves q w w.kept answer.NoSlot asked along.1 refl)
    (λ e. let other = not_equal (tried + 1) q.shape.slots e in ((next_below q.shape.slots slot below, tt, tt, tt), (chain, (none, omega (arith, few, other)))))

changes : (q : Asked) (w : Along) (way : Change) (word : ℕ) → IsSoundAsked q → w.kept ≡ None → IsHeldCount q.handle way word → IsSoundAt q w (count_found way q.handle word)
changes q w change.Drop word asked none fits =
    where_it_is (IsSoundAt q w) (holds_of word == 65535) _ _
    (λ e. (tt, none)) (λ e. let other = not_equal (holds_of word) 65535 e in ((asked.handle.0, (fits.1, omega (arith, other)), tt, tt), none))
changes q w change.Permanent word asked none fits = ((asked.handle.0, tt, tt, tt), none)
changes q w change.Kill word asked none fits = either_way (IsSoundAt q w) (is_live q.handle word) _ _ ((asked.handle.0, tt, tt, tt), none) (tt, none)

reads_soundly : (q : Asked) (w : Along) (k len : ℕ) → IsSoundAsked q → w.kept ≡ None → len ≤ 8 * q.shape.text_words → IsSoundAt q w (reads_from q.kind k len)
reads_soundly q w k len asked none fits =
    reads (λ kind s. IsSoundAt q w s) q.kind k len
    (λ kind e. let more = ltb-true k (words_of len) e in (((asked.handle.0, word_inside q.shape.text_words len k more fits), tt, tt, tt), (none, (more, fits)))) (tt, none) ((asked.number, tt, tt, refl), none)

-- the call after a step
abbrev pub IsSoundNext : Asked → Along × CallStage → Type 0
IsSoundNext q at = IsSoundAlong q.shape at.0 × IsSoundAt q at.0 at.1

pub got_soundly : (q : Asked) (w : Along) (s : CallStage) (word : ℕ) → word < 2 ^ 64 → IsSoundAsked q → IsSoundAlong q.shape w → IsSoundAt q w s → FitsAt q w s word → IsSoundNext q (next_at q w s word)
got_soundly q w (stage.Answered a) word small asked along at fits = absurd fits
got_soundly q w (stage.Draw draw.Load) word small asked along at fits = (along, either_way (IsSoundAt q w) (nat_le q.shape.seats word) _ _ (tt, at.1) ((tt, tt, tt, tt), at.1))
got_soundly q w (stage.Draw draw.Add) word small asked along at fits = (along, (tt, at.1))
got_soundly q w (stage.Find (find.Enter LoadCounter)) word small asked along at fits = (along, ((asked.number, fits.0, tt, refl), tt))
got_soundly q w (stage.Find (find.Enter (OpenSection counter))) word small asked along at fits = (along, ((tt, tt, tt, tt), tt))
got_soundly q w (stage.Find find.LoadLevel) word small asked along at fits = (along, (((fits.0.0, fits.0.1, mod-lt _ (pow_pos word)), tt, tt, tt), tt))
got_soundly q w (stage.Find find.LoadHead) word small asked along at fits =
    let v : Along = record w { walk = record w.walk { head = word } } in
    (along, either_way (λ next. IsSoundAt q v (finds q w word next)) (is_redirected word) _ _ ((tt, tt, tt, tt), tt) (arrives q w v word asked ((at.0.0.0, at.0.0.1), at.0.0.2, fits.0) along refl fits.0))
got_soundly q w (stage.Find find.LoadNewLevel) word small asked along at fits = (along, (((fits.0.1.0, fits.0.1.1, mod-lt _ (pow_pos (new_level_of word))), tt, tt, tt), tt))
got_soundly q w (stage.Find find.LoadNewHead) word small asked along at fits =
    let v : Along = record w { walk = record w.walk { head = word } } in
    (along, arrives q w v word asked ((at.0.0.0, at.0.0.1), at.0.0.2, fits.0) along refl fits.0)
got_soundly q w (stage.Node (node.Meta x)) word small asked along at fits =
    (along, either_way (λ s. IsSoundAt q w (stage.Node s)) (word == meta_word (meta_of q.seed q.text)) _ _ (compares q w x 0 asked at.1.0 at.0.0) ((at.0.0, tt, tt, tt), (at.1.0, tt)))
got_soundly q w (stage.Node (node.Text x k)) word small asked along at fits =
    (along, either_way (λ s. IsSoundAt q w (stage.Node s)) (word == word_at q.text k) _ _ (compares q w x (k + 1) asked at.1.0 at.0.0.0) ((at.0.0.0, tt, tt, tt), (at.1.0, tt)))
got_soundly q w (stage.Node (node.Count x)) word small asked along at fits =
    (along, counts (λ e s. IsSoundAt q w s) q w q.kind x word refl ((at.0.0, tt, tt, tt), (at.1.0, tt)) (λ is. ((at.0.0, tt, tt, tt), (at.1.0, is))) (λ is. leaves q w w.kept (met Weak q.goal (handle_at x word)) asked along.1 refl))
got_soundly q w (stage.Node (node.Link x)) word small asked along at fits =
    (along, comes q w (record w { walk = passes w.walk }) w.walk.head (node_of word) asked at.1.0 along refl (node_below q.shape word fits.0))
got_soundly q w (stage.Node (node.Take x count)) word small asked along at fits = (
  along,
  either_way (IsSoundAt q w) (word == count) _ _ (leaves q w w.kept (met Counted q.goal (handle_at x count)) asked along.1 refl) (loses q w q.goal asked along.1),
)
got_soundly q w (stage.Insert (insert.Claim slot tried)) word small asked along at fits =
    either_way (IsSoundNext q) (word == 0) _ _
    ((next_below q.shape.slots slot at.0.0, along.1), ((at.0.0, tt, tt, tt), (at.1.0, at.1.1.0))) (along, claims q w slot tried asked along at.1.0 at.1.1.0 at.0.0 at.1.1.1)
got_soundly q w (stage.Insert (insert.OwnCount slot)) word small asked along at fits =
    (along, ((at.0.0, tt, (hash_of_32 q.seed q.text asked.seed, (let short = asked.room.0 in omega (arith, short)), asked.room.1), tt), (at.1.0, (at.1.1, (at.0.0, omega (arith, small))))))
got_soundly q w (stage.Insert (insert.PutMeta h)) word small asked along at fits = (along, puts q w h 0 asked at.1.0 at.1.1.0 at.1.1.1)
got_soundly q w (stage.Insert (insert.PutText h k)) word small asked along at fits = (along, puts q w h (k + 1) asked at.1.0 at.1.1.0 at.1.1.1)
got_soundly q w (stage.Insert (insert.PutLink h)) word small asked along at fits = (along, links q w w.kept h at.1.0 refl at.1.1)
got_soundly q w (stage.Insert (insert.PutCount h)) word small asked along at fits = (along, creates q w h at.1.0 at.1.1.1)
got_soundly q w (stage.Insert (insert.Create h)) word small asked along at fits =
    either_way (IsSoundNext q) (word == w.walk.head) _ _
    ((along.0, tt), ((asked.number, tt, tt, refl), refl)) (gives_up (IsSoundNext q) w q.goal h (lost_head word) ((along.0, at.1.1), ((asked.number, tt, tt, refl), tt)) (along, ((at.1.1.0, at.1.1.1, tt, tt), tt)))
got_soundly q w (stage.Leave (leave.UndoCount h after)) word small asked along at fits = (along, ((at.0.0, tt, tt, tt), tt))
got_soundly q w (stage.Leave (leave.UndoClaim slot (next.Answer a))) word small asked along at fits = ((along.0, tt), ((asked.number, tt, tt, refl), refl))
got_soundly q w (stage.Leave (leave.UndoClaim slot next.TryAgain)) word small asked along at fits = ((along.0, tt), ((asked.number, tt, tt, refl), tt))
got_soundly q w (stage.Leave (leave.Close (next.Answer a))) word small asked along at fits = (along, (tt, at.1))
got_soundly q w (stage.Leave (leave.Close next.TryAgain)) word small asked along at fits = (along, ((tt, tt, tt, tt), tt))
got_soundly q w (stage.Handle (handle.Count way)) word small asked along at fits = (along, changes q w way word asked at.1 fits.1)
got_soundly q w (stage.Handle (handle.Exchange way count)) word small asked along at fits = (along, (tt, at.1))
got_soundly q w (stage.Read (read.Enter LoadCounter)) word small asked along at fits = (along, ((asked.number, fits.0, tt, refl), at.1))
got_soundly q w (stage.Read (read.Enter (OpenSection counter))) word small asked along at fits = (along, ((asked.handle.0, tt, tt, tt), at.1))
got_soundly q w (stage.Read read.Count) word small asked along at fits =
    (along, either_way (IsSoundAt q w) (is_live q.handle word) _ _ ((asked.handle.0, tt, tt, tt), (at.1.0, tt)) ((asked.number, tt, tt, refl), at.1.0))
got_soundly q w (stage.Read read.Meta) word small asked along at fits = (along, reads_soundly q w 0 (length_in word) asked at.1.0 fits.0.1)
got_soundly q w (stage.Read (read.Text k len)) word small asked along at fits = (along, reads_soundly q w (k + 1) len asked at.1.0 at.1.1.1)

pub sound_law : (c : Calling) (word : ℕ) → word < 2 ^ 64 → IsSoundCall c → FitsCall c word → IsSoundCall (got_of c word)
sound_law c word small sound fits =
    let after = got_soundly c.asked c.along c.stage word small sound.asked sound.along sound.at fits in
    record { asked = sound.asked; along = after.0; at = after.1 }
