-- What a try call has found out of its window, by each word that it finds.
use Rattle.std.proofs.Common.{◌≡◌, ◌≢◌, ℕ, ◌+◌, ◌<◌, ◌≤◌, ◌==◌, ◌||◌, nat_le, nat_lt, true, false, if◌then◌else◌, List, ◌++◌, None, refl, sym, ap}
use Rattle.std.proofs.Common.{subst, ◌∙◌, arith}
use Rattle.std.specs.List.{filter, list_any}
use Rattle.std.proofs.lemmas.Bool.Decides.{nat_tests}
use Rattle.std.proofs.lemmas.List.Folds.{list_any-append}
use Rattle.text_words.specs.Words.{words_of}
use Rattle.marked_word.specs.Meta.{length_in}
use Rattle.table_shape.specs.declared.shape.Shape.{Shape}
use Rattle.intern_log.specs.declared.event.Event.{Event}
use Rattle.intern_log.specs.declared.event.Handle.{Handle}
use Rattle.intern_log.specs.declared.event.Kind.{Kind}
use Rattle.intern_log.specs.declared.event.Kind.TheVariants.{Counted, Weak}
use Rattle.intern_log.specs.Log.{creates}
use Rattle.intern_log.specs.Own.{is_visible}
use Rattle.intern_log.specs.TextMap.{TextMap, IsLive}
use Rattle.atomic_step.specs.Count.{generation_of, holds_of, is_live}
use Rattle.atomic_step.specs.declared.answer.Answer.{Answer}
use Rattle.atomic_step.specs.declared.answer.Answer.TheVariants as answer
use Rattle.atomic_step.specs.declared.count.Change.{Change}
use Rattle.atomic_step.specs.declared.count.Change.TheVariants.{Drop, Permanent, Kill}
use Rattle.atomic_step.specs.SoundStep.{IsSoundPlan}
use Rattle.atomic_step.proofs.Choices.{where_it_is, either_way, not_equal}
use Rattle.call_machine.specs.declared.draw.DrawStage.TheVariants as draw
use Rattle.call_machine.specs.declared.handle.HandleStage.{HandleStage}
use Rattle.call_machine.specs.declared.handle.HandleStage.TheVariants as handle
use Rattle.call_machine.specs.declared.insert.InsertStage.{InsertStage}
use Rattle.call_machine.specs.declared.insert.InsertStage.TheVariants as insert
use Rattle.call_machine.specs.declared.leave.LeaveStage.TheVariants as leave
use Rattle.call_machine.specs.declared.leave.Then.{Then}
use Rattle.call_machine.specs.declared.leave.Then.TheVariants as next
use Rattle.call_machine.specs.declared.node.NodeStage.{NodeStage}
use Rattle.call_machine.specs.declared.node.NodeStage.TheVariants as node
use Rattle.call_machine.specs.declared.read.ReadStage.{ReadStage}
use Rattle.call_machine.specs.declared.read.ReadStage.TheVariants as read
use Rattle.call_machine.specs.declared.stage.Along.{Along}
use Rattle.call_machine.specs.declared.stage.Asked.{Asked}
use Rattle.call_machine.specs.declared.stage.CallStage.{CallStage}
use Rattle.call_machine.specs.declared.stage.CallStage.TheVariants as stage
use Rattle.call_machine.specs.CallEvents.{made_at}
use Rattle.call_machine.specs.Calls.{plan_at, next_at}
use Rattle.call_machine.specs.Handle.{count_found, made_answer, lost_answer}
use Rattle.call_machine.specs.Leave.{left_for, leaves_with}
use Rattle.call_machine.specs.Read.{read_all, reads_from}
use Rattle.call_machine.specs.SoundCall.{FitsAt}
use Rattle.cht_core.specs.declared.table.Table.{Table}
use Rattle.cht_core.specs.Causes.{now_in, PlanSays, IsUnseen, loaded_at}
use Rattle.cht_core.specs.CauseCalls.{Way, Walks, Changes, Reads, Splits, HasCount, IsWordOf, IsGone, ChangeEnds, ReadEnds, CallEnds, ThenEnds, WasMade, CallCaused, CallHears}
use Rattle.cht_core.specs.Flow.{Flow}
use Rattle.cht_core.specs.Past.{Past, past_of}
use Rattle.cht_core.specs.Tidy.{IsTidy}
use Rattle.cht_core.specs.Windows.{Somewhere, IsTold, whats_by}
use Rattle.cht_core.specs.WordSays.{SaysOfCount}
use Rattle.cht_core.proofs.Windows.{at_end}
use Rattle.cht_core.proofs.CauseWords.{texts_are, entry_live, entry_gone, count_lost, kill_lost}
use Rattle.cht_core.proofs.CauseWalks.{find_found, node_found}
use Rattle.cht_core.proofs.CauseInserts.{insert_found, IsWithin}

live_so : (h : Handle) (word : ℕ) → generation_of word ≡ h.generation → 1 ≤ holds_of word → is_live h word ≡ true
live_so h word generation holds = grind (arith, nat_tests)

-- a handle that was created before the window was created before its end
pub made_still : (t : Table) (seen window : List Event) (h : Handle) → WasMade t seen h → (past_of t.shape.min_level (seen ++ window)).made h ≡ true
made_still t seen window h made = list_any-append (λ (e : Event). creates e.what h) seen window ∙ ap (λ b. b || list_any (λ (e : Event). creates e.what h) window) made

module _ (t : Table) (i : ℕ) (way : Way) (seen window : List Event) (f : Flow) (q : Asked) (told : IsTold t (seen ++ window)) (tidy : IsTidy t (now_in t (seen ++ window))) where
  abbrev Now' : Past
  Now' = past_of t.shape.min_level (seen ++ window)

  of_change : (change : Change) → way ≡ Changes change → (a : Answer) → ChangeEnds i q.handle seen window a → CallEnds t i way q seen window a
  of_change change is a h = subst (λ way. CallEnds t i way q seen window a) (sym is) h

  of_read : way ≡ Reads → (a : Answer) → ReadEnds q.handle seen window a → CallEnds t i way q seen window a
  of_read is a h = subst (λ way. CallEnds t i way q seen window a) (sym is) h

  -- the live entry of the handle, by a word; and none
  live_now : (word : ℕ) → WasMade t seen q.handle → SaysOfCount Now' q.handle.slot word → is_live q.handle word ≡ true → (text : List ℕ) × Somewhere (IsWordOf text q.handle word) seen window
  live_now word made says live =
      let (text, count, has, is) = entry_live t Now' tidy q.handle word (made_still t seen window q.handle made) says live in
      (text, at_end seen window (IsWordOf text q.handle word) (count, subst (λ (m : TextMap). HasCount m text q.handle count) (texts_are t i seen window told (seen ++ window)) has, is))

  gone_now : (word : ℕ) → WasMade t seen q.handle → SaysOfCount Now' q.handle.slot word → is_live q.handle word ≡ false → Somewhere (IsGone q.handle) seen window
  gone_now word made says dead =
      at_end seen window (IsGone q.handle)
      (subst (λ (m : TextMap). ¬ (IsLive m q.handle)) (texts_are t i seen window told (seen ++ window)) (entry_gone t Now' tidy q.handle word (made_still t seen window q.handle made) says dead))

  counted : (load : ℕ) (w : Along) (change : Change) (word : ℕ) → way ≡ Changes change → WasMade t seen q.handle → SaysOfCount Now' q.handle.slot word →
      FitsAt q w (stage.Handle (handle.Count change)) word →
      CallCaused t i way seen window load q w (count_found change q.handle word)
  counted load w Drop word is made says fits =
      where_it_is (λ s. CallCaused t i way seen window load q w s) (holds_of word == 65535) (stage.Answered answer.Permanent) (stage.Handle (handle.Exchange Drop word))
      (λ most. of_change Drop is answer.Permanent tt) (λ less. (is, live_now word made says (live_so q.handle word fits.1.0 fits.1.1)))
  counted load w Permanent word is made says fits = (is, live_now word made says (live_so q.handle word fits.1.0 fits.1.1))
  counted load w Kill word is made says fits =
      where_it_is (λ s. CallCaused t i way seen window load q w s) (is_live q.handle word) (stage.Handle (handle.Exchange Kill word)) (stage.Answered answer.Stale)
      (λ live. (is, live_now word made says live)) (λ dead. of_change Kill is answer.Stale (gone_now word made says dead))

  made_so : (change : Change) (count : ℕ) → ChangeEnds i q.handle seen window (made_answer change count)
  made_so Drop count = tt
  made_so Permanent count = tt
  made_so Kill count = tt

  lost : (change : Change) (count word : ℕ) (text : List ℕ) → IsUnseen i window → (change ≡ Kill → t.kind ≡ Weak) → Somewhere (IsWordOf text q.handle count) seen window →
      SaysOfCount Now' q.handle.slot word → word ≢ count →
      ChangeEnds i q.handle seen window (lost_answer change)
  lost Drop count word text unseen weak was says other = count_lost t i seen window told tidy text q.handle count word unseen was says other
  lost Permanent count word text unseen weak was says other = count_lost t i seen window told tidy text q.handle count word unseen was says other
  lost Kill count word text unseen weak was says other = kill_lost t i seen window told tidy text q.handle count word (weak refl) was says other

  -- a call by handle, by a word that is found
  handle_found : (load : ℕ) (w : Along) (s : HandleStage) (word : ℕ) → CallCaused t i way seen window load q w (stage.Handle s) → PlanSays t Now' f (plan_at q w (stage.Handle s)) word →
      CallHears t Now' f i load (seen ++ window) q w (stage.Handle s) word → FitsAt q w (stage.Handle s) word → IsUnseen i window →
      CallCaused t i way seen window (loaded_at (plan_at q w (stage.Handle s)) Now'.now.place load) q (next_at q w (stage.Handle s) word).0 (next_at q w (stage.Handle s) word).1
  handle_found load w (handle.Count change) word h says hears fits unseen = counted load w change word h.0 h.1 says fits
  handle_found load w (handle.Exchange change count) word h says hears fits unseen =
      where_it_is (λ a. CallEnds t i way q seen window a) (word == count) (made_answer change count) (lost_answer change)
      (λ same. of_change change h.0 (made_answer change count) (made_so change count))
      (λ other. of_change change h.0 (lost_answer change) (lost change count word h.1.0 unseen (kills change hears) h.1.1 says (not_equal word count other)))
    where
      kills : (change : Change) → CallHears t Now' f i load (seen ++ window) q w (stage.Handle (handle.Exchange change count)) word → change ≡ Kill → t.kind ≡ Weak
      kills Kill weak is = weak
      kills Drop weak is = absurd (cc)
      kills Permanent weak is = absurd (cc)

  read_on : (load : ℕ) (w : Along) (kind : Kind) (len : ℕ) → way ≡ Reads → CallCaused t i way seen window load q w (read_all kind (answer.Text len))
  read_on load w Counted len is = of_read is (answer.Text len) tt
  read_on load w Weak len is = of_read is (answer.Text len) tt

  reading : (load : ℕ) (w : Along) (kind : Kind) (at len : ℕ) → way ≡ Reads → WasMade t seen q.handle → CallCaused t i way seen window load q w (reads_from kind at len)
  reading load w kind at len is made =
      where_it_is (λ s. CallCaused t i way seen window load q w s) (nat_lt at (words_of len)) (stage.Read (read.Text at len)) (read_all kind (answer.Text len)) (λ more. (is, made))
      (λ end. read_on load w kind len is)

  -- a reading, by a word that is found
  read_found : (load : ℕ) (w : Along) (s : ReadStage) (word : ℕ) → CallCaused t i way seen window load q w (stage.Read s) → PlanSays t Now' f (plan_at q w (stage.Read s)) word →
      CallCaused t i way seen window (loaded_at (plan_at q w (stage.Read s)) Now'.now.place load) q (next_at q w (stage.Read s) word).0 (next_at q w (stage.Read s) word).1
  read_found load w (read.Enter s) word h says = h
  read_found load w read.Count word h says =
      where_it_is (λ s. CallCaused t i way seen window load q w s) (is_live q.handle word) (stage.Read read.Meta) (leaves_with None answer.Stale)
      (λ live. h) (λ dead. of_read h.0 answer.Stale (gone_now word h.1 says dead))
  read_found load w read.Meta word h says = reading load w q.kind 0 (length_in word) h.0 h.1
  read_found load w (read.Text at len) word h says = reading load w q.kind (at + 1) len h.0 h.1

  leaving_for : (load : ℕ) (w : Along) (after : Then) → ThenEnds t i way q seen window after → (let at = left_for w after in CallCaused t i way seen window load q at.0 at.1)
  leaving_for load w (next.Answer a) h = h
  leaving_for load w next.TryAgain h = h

  drawn : (load : ℕ) (w : Along) (a : Answer) → way ≡ Splits → CallCaused t i way seen window load q w (stage.Answered a)
  drawn load w a is = subst (λ way. CallEnds t i way q seen window a) (sym is) tt

  within : q.shape ≡ t.shape → (w : Along) (s : InsertStage) → IsSoundPlan q.shape q.number (plan_at q w (stage.Insert s)) → IsWithin t s
  within shape w (insert.Claim slot tried) sound = subst (λ (x : Shape). slot < x.slots) shape sound.0
  within shape w (insert.OwnCount slot) sound = tt
  within shape w (insert.PutMeta h) sound = tt
  within shape w (insert.PutText h at) sound = tt
  within shape w (insert.PutLink h) sound = tt
  within shape w (insert.PutCount h) sound = tt
  within shape w (insert.Create h) sound = tt

  walks_inserting : (load : ℕ) (w : Along) (s : InsertStage) → CallCaused t i way seen window load q w (stage.Insert s) → way ≡ Walks
  walks_inserting load w (insert.Claim slot tried) h = h.0
  walks_inserting load w (insert.OwnCount slot) h = h.0
  walks_inserting load w (insert.PutMeta k) h = h.0
  walks_inserting load w (insert.PutText k at) h = h.0
  walks_inserting load w (insert.PutLink k) h = h.0
  walks_inserting load w (insert.PutCount k) h = h.0
  walks_inserting load w (insert.Create k) h = h.0

  walks_at_node : (load : ℕ) (w : Along) (s : NodeStage) → CallCaused t i way seen window load q w (stage.Node s) → way ≡ Walks
  walks_at_node load w (node.Meta x) h = h.0
  walks_at_node load w (node.Text x at) h = h.0
  walks_at_node load w (node.Count x) h = h.0
  walks_at_node load w (node.Link x) h = h.0
  walks_at_node load w (node.Take x count) h = h.0

  -- a try call by a word that is found
  pub call_found : (load : ℕ) (w : Along) (s : CallStage) (word : ℕ) → q.shape ≡ t.shape → filter is_visible (whats_by i window) ≡ made_at q s →
      IsSoundPlan q.shape q.number (plan_at q w s) → FitsAt q w s word →
      CallCaused t i way seen window load q w s → PlanSays t Now' f (plan_at q w s) word → CallHears t Now' f i load (seen ++ window) q w s word →
      CallCaused t i way seen window (loaded_at (plan_at q w s) Now'.now.place load) q (next_at q w s word).0 (next_at q w s word).1
  call_found load w (stage.Answered a) word shape shown sound fits h says hears = h
  call_found load w (stage.Draw draw.Load) word shape shown sound fits h says hears =
      either_way (λ s. CallCaused t i way seen window load q w s) (nat_le q.shape.seats word) (stage.Answered answer.SeatsSpent) (stage.Draw draw.Add) (drawn load w answer.SeatsSpent h) h
  call_found load w (stage.Draw draw.Add) word shape shown sound fits h says hears = drawn load w (if nat_le q.shape.seats word then answer.SeatsSpent else answer.Split word) h
  call_found load w (stage.Find s) word shape shown sound fits h says hears = find_found t i way seen window f q h told load w s word says hears
  call_found load w (stage.Node s) word shape shown sound fits h says hears = node_found t i way seen window f q (walks_at_node load w s h) told tidy shown load w s word h says hears
  call_found load w (stage.Insert s) word shape shown sound fits h says hears =
      insert_found t i way seen window f q (walks_inserting load w s h) (ap (λ (x : Shape). x.slots) shape) load w s word h says hears (within shape w s sound)
  call_found load w (stage.Leave (leave.UndoCount k after)) word shape shown sound fits h says hears = h
  call_found load w (stage.Leave (leave.UndoClaim slot after)) word shape shown sound fits h says hears = h
  call_found load w (stage.Leave (leave.Close after)) word shape shown sound fits h says hears = leaving_for load w after h
  call_found load w (stage.Handle s) word shape shown sound fits h says hears = handle_found load w s word h says hears fits shown
  call_found load w (stage.Read s) word shape shown sound fits h says hears = read_found load w s word h says
