-- What is left of a call falls by each step, and so a call answers in time.
use Rattle.std.proofs.Common.{◌≡◌, ◌<◌, ◌≤◌, ◌+◌, ◌-◌, ◌*◌, ◌^◌, ◌∙◌, ◌⊎◌, ℕ, suc, Bool, true, false, Option, Some, None, refl, ap, subst, cond, length, List, [], ◌==◌, mul-add, suc-mul}
use Rattle.std.specs.Prelude.{nat_le, min}
use native.Mathlib.Omega.{arith}
use Rattle.text_words.specs.Words.{words_of, word_at}
use Rattle.marked_word.specs.Head.{first_of}
use Rattle.marked_word.specs.Link.{node_of}
use Rattle.marked_word.specs.Meta.{length_in, meta_word}
use Rattle.table_shape.specs.declared.shape.Shape.{Shape}
use Rattle.intern_log.specs.declared.event.Handle.{Handle}
use Rattle.intern_log.specs.declared.event.Kind.{Kind}
use Rattle.intern_log.specs.declared.event.Kind.TheVariants.{Counted, Weak}
use Rattle.atomic_step.specs.declared.answer.Answer.{Answer}
use Rattle.atomic_step.specs.declared.answer.Answer.TheVariants as answer
use Rattle.atomic_step.specs.declared.plan.Plan.TheVariants as plan
use Rattle.atomic_step.specs.Count.{handle_at, is_live}
use Rattle.atomic_step.specs.Found.{HasSoundHandleIn}
use Rattle.atomic_step.specs.Run.{AreFitting}
use Rattle.atomic_step.proofs.Choices.{either_way}
use Rattle.atomic_step.proofs.Found.{goes_on}
use Rattle.atomic_step.proofs.Runs.{falls}
use Rattle.call_machine.specs.declared.caller.Caller.{Caller}
use Rattle.call_machine.specs.declared.draw.DrawStage.TheVariants as draw
use Rattle.call_machine.specs.declared.enter.EnterStage.TheVariants as enter
use Rattle.call_machine.specs.declared.find.FindStage.TheVariants as find
use Rattle.call_machine.specs.declared.handle.HandleStage.TheVariants as handle
use Rattle.call_machine.specs.declared.insert.InsertStage.TheVariants as insert
use Rattle.call_machine.specs.declared.leave.LeaveStage.TheVariants as leave
use Rattle.call_machine.specs.declared.leave.Then.TheVariants as next
use Rattle.call_machine.specs.declared.node.NodeStage.TheVariants as node
use Rattle.call_machine.specs.declared.read.ReadStage.TheVariants as read
use Rattle.call_machine.specs.declared.stage.Along.{Along}
use Rattle.call_machine.specs.declared.stage.Asked.{Asked}
use Rattle.call_machine.specs.declared.stage.Calling.{Calling}
use Rattle.call_machine.specs.declared.stage.CallStage.{CallStage}
use Rattle.call_machine.specs.declared.stage.CallStage.TheVariants as stage
use Rattle.call_machine.specs.declared.stage.Goal.{Goal}
use Rattle.call_machine.specs.declared.stage.Goal.TheVariants.{Lookup, InternWait}
use Rattle.call_machine.specs.BeginCall.{AtEachBeginning, begins, begun_split, begun_walk, begun_change, begun_read}
use Rattle.call_machine.specs.CallMeasure.{IsTry, node_steps, left_at, left, passes_node, passed_after, steps_left, most_steps, short_walks}
use Rattle.call_machine.specs.Calls.{next_at, plan_at, plan_of, got_of}
use Rattle.call_machine.specs.Insert.{not_claimed, after_link, not_created, lost_head}
use Rattle.call_machine.specs.Node.{compares_from, met}
use Rattle.call_machine.specs.Read.{first_read}
use Rattle.call_machine.specs.SoundCall.{IsSoundAsked, IsSoundCall, HasSoundStage, FitsAt, FitsCall}
use Rattle.call_machine.specs.Sought.{meta_of, has_word, is_too_long}
use Rattle.call_machine.proofs.Nodes.{few_slots}
use Rattle.call_machine.proofs.SoundCall.{sound_law}
use Rattle.call_machine.proofs.WholeCall.{begins_law}
use Rattle.call_machine.proofs.Walked.{HoldsOnLeaving, HoldsOnWalks, leaves, loses, comes, arrives, counts, gives_up, changes, reads}

-- the stage has fewer steps left
abbrev pub HasFewer : Shape → ℕ → CallStage → Type 0
HasFewer shape steps s = left_at shape s < steps

on_leaving : (shape : Shape) (goal : Goal) (steps : ℕ) → IsTry goal → 4 ≤ steps → HoldsOnLeaving goal (λ a. Unit {0}) (λ kept s. HasFewer shape steps s)
on_leaving shape goal steps try many = record { closes = λ a so. omega (arith, many); undoes = λ h a so. omega (arith, many); again = λ waits kept. absurd (subst IsTry waits try) }

on_walks : (shape : Shape) (goal : Goal) (steps : ℕ) → IsTry goal → 9 + shape.text_words + shape.slots ≤ steps → HoldsOnWalks goal (λ a. Unit {0}) (λ kept s. HasFewer shape steps s)
on_walks shape goal steps try many =
    record {
      leaving = on_leaving shape goal steps try (omega (arith, many));
      miss = tt;
      locked = tt;
      claims = λ intern cursor. omega (arith, many);
      puts = λ intern h. omega (arith, many);
      meets = λ kept slot. omega (arith, many);
    }

-- the words of a text are compared, stored and read one after another
compares : (shape : Shape) (text : List ℕ) (b : Bool) (x at steps : ℕ) → 8 + (shape.text_words - at) + shape.slots ≤ steps → HasFewer shape steps (stage.Node (cond b (compares_from text x at) (node.Link x)))
compares shape text true x at steps many = either_way (λ s. HasFewer shape steps (stage.Node s)) (has_word text at) _ _ (omega (arith, many)) (omega (arith, many))
compares shape text false x at steps many = omega (arith, many)

links : (shape : Shape) (kept : Option Handle) (h : Handle) → HasFewer shape 6 (stage.Insert (after_link kept h))
links shape None h = omega arith
links shape (Some k) h = omega arith

lost : (shape : Shape) (w : Along) (goal : Goal) (h : Handle) (a : Answer) → IsTry goal → HasFewer shape 4 (not_created w goal h a).1
lost shape w InternWait h a try = absurd try
lost shape w _ h a try = omega arith

-- a text that fits has its words inside a slot, and one that is read is a word shorter
inside : (words len at : ℕ) → at < words_of len → len ≤ 8 * words → at < words
inside words len at below fits = omega (arith, below, fits)

shorter : (words at : ℕ) → at < words → 2 + (words - (at + 1)) ≤ 1 + (words - at)
shorter words at below = omega (arith, below)

few : (words len : ℕ) → len ≤ 8 * words → 2 + (words_of len - 0) ≤ 2 + words
few words len short = omega (arith, short)

one_more : (a b : ℕ) → a < 1 + (a + b)
one_more a b = omega arith

fewer : (q : Asked) (w : Along) (s : CallStage) (word : ℕ) → IsSoundAsked q → HasSoundStage q w s → FitsAt q w s word → IsTry q.goal → passes_node s ≡ false → HasFewer q.shape (left_at q.shape s) (next_at q w s word).1
fewer q w (stage.Answered a) word asked at fits try stays = absurd fits
fewer q w (stage.Draw draw.Load) word asked at fits try stays = either_way (HasFewer q.shape 2) (nat_le q.shape.seats word) _ _ (omega arith) (omega arith)
fewer q w (stage.Find (find.Enter enter.LoadCounter)) word asked at fits try stays = omega arith
fewer q w (stage.Find find.LoadHead) word asked at fits try stays = arrives q (on_walks q.shape q.goal (11 + q.shape.text_words + q.shape.slots) try (omega arith)) (λ kept. omega arith) w word
fewer q w (stage.Find find.LoadNewHead) word asked at fits try stays = comes q (on_walks q.shape q.goal (9 + q.shape.text_words + q.shape.slots) try (omega arith)) w word (first_of word)
fewer q w (stage.Node (node.Meta x)) word asked at fits try stays = compares q.shape q.text (word == meta_word (meta_of q.seed q.text)) x 0 (8 + q.shape.text_words + q.shape.slots) (omega arith)
fewer q w (stage.Node (node.Text x k)) word asked at fits try stays =
    let below = inside q.shape.text_words (length q.text) k at.1 asked.room.1 in
    compares q.shape q.text (word == word_at q.text k) x (k + 1) (7 + (q.shape.text_words - k) + q.shape.slots) (omega (arith, below))
fewer q w (stage.Node (node.Count x)) word asked at fits try stays =
    counts (λ e s. HasFewer q.shape (7 + q.shape.slots) s) q w q.kind x word refl (omega arith) (λ is. omega arith) (λ is. leaves (on_leaving q.shape q.goal (7 + q.shape.slots) try (omega arith)) w.kept (met Weak q.goal (handle_at x word)) tt)
fewer q w (stage.Node (node.Link x)) word asked at fits try stays = absurd (cc)
fewer q w (stage.Node (node.Take x count)) word asked at fits try stays =
    let on = on_leaving q.shape q.goal 4 try (omega arith) in
    either_way (HasFewer q.shape 4) (word == count) _ _ (leaves on w.kept (met Counted q.goal (handle_at x count)) tt) (loses q.goal on w.kept answer.Again tt)
fewer q w (stage.Insert (insert.Claim slot tried)) word asked at fits try stays =
    let few : tried < q.shape.slots = at.1.1 in
    let steps : ℕ = 8 + q.shape.text_words + (q.shape.slots - tried) in
    either_way (λ (n : Along × CallStage). HasFewer q.shape steps n.1) (word == 0) _ (w, not_claimed q w slot tried) (omega (arith, few))
    (either_way (HasFewer q.shape steps) (tried + 1 == q.shape.slots) _ _ (leaves (on_leaving q.shape q.goal steps try (omega arith)) w.kept answer.NoSlot tt) (omega (arith, few)))
fewer q w (stage.Insert (insert.PutMeta h)) word asked at fits try stays = either_way (λ s. HasFewer q.shape (7 + q.shape.text_words) (stage.Insert s)) (has_word q.text 0) _ _ (omega arith) (omega arith)
fewer q w (stage.Insert (insert.PutText h k)) word asked at fits try stays =
    let below = inside q.shape.text_words (length q.text) k at.1.2 asked.room.1 in
    either_way (λ s. HasFewer q.shape (6 + (q.shape.text_words - k)) (stage.Insert s)) (has_word q.text (k + 1)) _ _ (omega (arith, below)) (omega (arith, below))
fewer q w (stage.Insert (insert.PutLink h)) word asked at fits try stays = links q.shape w.kept h
fewer q w (stage.Insert (insert.Create h)) word asked at fits try stays =
    either_way (λ (n : Along × CallStage). HasFewer q.shape 4 n.1) (word == w.walk.head) _ (not_created w q.goal h (lost_head word)) (omega arith) (lost q.shape w q.goal h (lost_head word) try)
fewer q w (stage.Leave (leave.Close (next.Answer a))) word asked at fits try stays = omega arith
fewer q w (stage.Leave (leave.Close next.TryAgain)) word asked at fits try stays = one_more (14 + q.shape.text_words + q.shape.slots) (q.shape.slots * node_steps q.shape)
fewer q w (stage.Handle (handle.Count way)) word asked at fits try stays = changes (λ e s. HasFewer q.shape 2 s) way q.handle word (omega arith) (omega arith) (λ way. omega arith)
fewer q w (stage.Read (read.Enter enter.LoadCounter)) word asked at fits try stays = omega arith
fewer q w (stage.Read read.Count) word asked at fits try stays = either_way (HasFewer q.shape (3 + q.shape.text_words)) (is_live q.handle word) _ _ (omega arith) (omega arith)
fewer q w (stage.Read read.Meta) word asked at fits try stays =
    let short = few q.shape.text_words (length_in word) fits.0.1 in
    reads (λ kind s. HasFewer q.shape (2 + q.shape.text_words) s) q.kind 0 (length_in word) (λ kind more. omega (arith, short)) (omega arith) (omega arith)
fewer q w (stage.Read (read.Text k len)) word asked at fits try stays =
    let below = shorter (words_of len) k at.1.0 in
    reads (λ kind s. HasFewer q.shape (1 + (words_of len - k)) s) q.kind (k + 1) len (λ kind more. omega (arith, below)) (omega (arith, below)) (omega (arith, below))
fewer q w _ word asked at fits try stays = omega arith

pub fewer_law : (c : Calling) (word : ℕ) → IsSoundCall c → FitsCall c word → IsTry c.asked.goal → passes_node c.stage ≡ false → left (got_of c word) < left c
fewer_law c word sound fits try stays = fewer c.asked c.along c.stage word sound.asked sound.at.1 fits try stays

-- the nodes that were passed
abbrev pub Passes : ℕ → Along × CallStage → Type 0
Passes passed n = n.0.walk.passed ≡ passed

passed : (q : Asked) (w : Along) (s : CallStage) (word : ℕ) → Passes (passed_after s w.walk.passed) (next_at q w s word)
passed q w (stage.Draw draw.Load) word = refl
passed q w (stage.Find find.LoadLevel) word = refl
passed q w (stage.Node (node.Link x)) word = refl
passed q w (stage.Insert (insert.Claim slot tried)) word = either_way (Passes w.walk.passed) (word == 0) _ _ refl refl
passed q w (stage.Insert (insert.Create h)) word = either_way (Passes w.walk.passed) (word == w.walk.head) _ _ refl (gives_up (Passes w.walk.passed) w q.goal h (lost_head word) refl refl)
passed q w (stage.Leave (leave.Close next.TryAgain)) word = refl
passed q w (stage.Handle (handle.Count way)) word = refl
passed q w (stage.Read read.Meta) word = refl
passed q w _ word = refl

pub passed_law : (c : Calling) (word : ℕ) → (got_of c word).along.walk.passed ≡ passed_after c.stage c.along.walk.passed
passed_law c word = passed c.asked c.along c.stage word

-- the steps by which further nodes are passed
abbrev pub passing : Shape → ℕ → ℕ
passing shape passed = (shape.slots - passed) * node_steps shape

-- a step that passes no node, one that loads a link, and one that begins again
stays_below : (a b x y : ℕ) → x ≡ y → a < b → a + x < b + y
stays_below a b x y same below = omega (arith, same, below)

link_below : (words slots passed l : ℕ) → slots < 4294967295 → min (passed + 1) 4294967295 ≤ slots → l < 9 + words + slots → l + (slots - min (passed + 1) 4294967295) * (3 + words) < (6 + slots) + (slots - passed) * (3 + words)
link_below words slots passed l few below fewer =
    let next : slots - passed ≡ suc (slots - min (passed + 1) 4294967295) = omega (arith, few, below) in
    let steps = ap (λ k. k * (3 + words)) next ∙ suc-mul (slots - min (passed + 1) 4294967295) (3 + words) in
    omega (arith, fewer, steps)

all_of : (n k : ℕ) → (n - 0) * k ≡ n * k
all_of n k = let all : n - 0 ≡ n = omega arith in ap (λ n. n * k) all

again_below : (slots a steps rest : ℕ) → a + (slots - 0) * steps < (1 + (a + slots * steps)) + rest
again_below slots a steps rest = let all = all_of slots steps in omega (arith, all)

step_falls : (q : Asked) (w : Along) (s : CallStage) (word : ℕ) → IsSoundAsked q → HasSoundStage q w s → FitsAt q w s word → IsTry q.goal → (next_at q w s word).0.walk.passed ≤ q.shape.slots
    → left_at q.shape (next_at q w s word).1 + passing q.shape (next_at q w s word).0.walk.passed < left_at q.shape s + passing q.shape w.walk.passed
step_falls q w (stage.Node (node.Link x)) word asked at fits try below =
    let on = on_walks q.shape q.goal (9 + q.shape.text_words + q.shape.slots) try (omega arith) in
    link_below q.shape.text_words q.shape.slots w.walk.passed _ (few_slots q.shape asked.shape) below (comes q on (next_at q w (stage.Node (node.Link x)) word).0 w.walk.head (node_of word))
step_falls q w (stage.Leave (leave.Close next.TryAgain)) word asked at fits try below = again_below q.shape.slots (14 + q.shape.text_words + q.shape.slots) (node_steps q.shape) (passing q.shape w.walk.passed)
step_falls q w s word asked at fits try below = stays_below _ _ _ _ (ap (passing q.shape) (passed q w s word)) (fewer q w s word asked at fits try refl)

-- a run
abbrev pub IsSoundTry : Calling → Type 0
IsSoundTry c = IsSoundCall c × IsTry c.asked.goal

pub run_law : (c : Calling) (words : List ℕ) → IsSoundCall c → IsTry c.asked.goal → AreFitting short_walks c words → length words ≤ steps_left c
run_law c words sound try fits =
    let all = falls short_walks steps_left IsSoundTry (λ d word so run. (sound_law d word run.0.0 so.0 run.0.1, so.1))
    (λ d word so run. step_falls d.asked d.along d.stage word so.0.asked so.0.at.1 run.0.1 so.1 run.1) c words (sound, try) fits in
    omega (arith, all)

-- the steps of a call that begins
abbrev pub IsCovered : Calling → Type 0
IsCovered c = steps_left c ≤ most_steps c.asked.shape

covered : (shape : Shape) (steps : ℕ) → steps ≤ 14 + shape.text_words + shape.slots → steps + passing shape 0 ≤ most_steps shape
covered shape steps few =
    let all = all_of shape.slots (3 + shape.text_words) in
    let wide : 4 + shape.text_words ≡ 1 + (3 + shape.text_words) = omega arith in
    let parts = ap (λ k. shape.slots * k) wide ∙ mul-add shape.slots 1 (3 + shape.text_words) in
    omega (arith, few, all, parts)

reads_covered : (caller : Caller) (h : Handle) (kind : Kind) → IsCovered (begins caller Lookup [] h (stage.Read (first_read kind)))
reads_covered caller h Counted = covered caller.shape (2 + caller.shape.text_words) (omega arith)
reads_covered caller h Weak = covered caller.shape (5 + caller.shape.text_words) (omega arith)

abbrev pub AnswersInTime : Calling → Type 0
AnswersInTime c = IsTry c.asked.goal → (words : List ℕ) → AreFitting short_walks c words → length words ≤ most_steps c.asked.shape

in_time : (c : Calling) → IsSoundCall c → IsCovered c → AnswersInTime c
in_time c sound few try words fits = let most = run_law c words sound try fits in omega (arith, few, most)

pub in_time_law : AtEachBeginning AnswersInTime
in_time_law caller goal text way h sound own =
    let all = begins_law caller goal text way h sound own in (
      in_time (begun_split caller) all.0 (covered caller.shape 2 (omega arith)),
      in_time (begun_walk caller goal text) all.1 (either_way IsCovered (is_too_long caller.shape text) _ _ (covered caller.shape 0 (omega arith)) (covered caller.shape (14 + caller.shape.text_words + caller.shape.slots) (omega arith))),
      in_time (begun_change caller way h) all.2 (covered caller.shape 2 (omega arith)),
      in_time (begun_read caller h) all.3 (reads_covered caller h caller.kind),
    )

-- a sound call has answered, or goes on
sound_handle : (q : Asked) (w : Along) (s : CallStage) → IsSoundAsked q → HasSoundHandleIn (plan_at q w s)
sound_handle q w (stage.Draw draw.Load) asked = tt
sound_handle q w (stage.Find (find.Enter enter.LoadCounter)) asked = tt
sound_handle q w (stage.Node (node.Link x)) asked = tt
sound_handle q w (stage.Insert (insert.OwnCount x)) asked = tt
sound_handle q w (stage.Leave (leave.Close after)) asked = tt
sound_handle q w (stage.Handle (handle.Count way)) asked = asked.handle.1
sound_handle q w (stage.Read (read.Enter enter.LoadCounter)) asked = tt
sound_handle q w _ asked = tt

pub goes_on_law : (c : Calling) → IsSoundCall c → ((a : Answer) × (plan_of c ≡ plan.Answered a)) ⊎ ((word : ℕ) × (word < 2 ^ 64) × FitsCall c word)
goes_on_law c sound = goes_on c.asked.shape (plan_of c) sound.asked.shape (sound_handle c.asked c.along c.stage sound.asked)
