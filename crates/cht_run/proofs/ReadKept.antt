-- What a seat knows of the text that it reads: over the steps of others, as its call begins, and over its own steps; and what its loads say.
use Rattle.std.proofs.Common.{◌≡◌, ℕ, ◌+◌, ◌<◌, Bool, true, false, cond, nat_lt, List, [], ◌++◌, length, Option, Some, None, inl, inr, refl, sym, ap, subst, ◌∙◌}
use Rattle.text_words.specs.Words.{words_of}
use Rattle.marked_word.specs.Meta.{length_in}
use Rattle.table_shape.specs.declared.place.Place.TheVariants as place
use Rattle.intern_log.specs.declared.event.Event.{Event}
use Rattle.intern_log.specs.declared.event.Handle.{Handle}
use Rattle.intern_log.specs.declared.event.Kind.{Kind}
use Rattle.intern_log.specs.declared.event.Kind.TheVariants.{Counted, Weak}
use Rattle.intern_log.specs.Now.{Linked, opening}
use Rattle.intern_log.specs.Sections.{IsCreatedAs}
use Rattle.intern_log.specs.TextMap.{HasHandle}
use Rattle.atomic_step.specs.Count.{is_live}
use Rattle.atomic_step.specs.Step.{access_of}
use Rattle.atomic_step.specs.declared.access.Deed.TheVariants as deed
use Rattle.atomic_step.specs.declared.answer.Answer.TheVariants as answer
use Rattle.atomic_step.specs.declared.plan.Plan.TheVariants as plan
use Rattle.atomic_step.specs.declared.step.Step.{Step}
use Rattle.call_machine.specs.declared.call.Call.{Call}
use Rattle.call_machine.specs.declared.call.Call.TheVariants as call
use Rattle.call_machine.specs.declared.caller.Caller.{Caller}
use Rattle.call_machine.specs.declared.enter.EnterStage.TheVariants as enter
use Rattle.call_machine.specs.declared.grace.Grace.{Grace}
use Rattle.call_machine.specs.declared.machine.Machine.{Machine}
use Rattle.call_machine.specs.declared.machine.Machine.TheVariants as machine
use Rattle.call_machine.specs.declared.machine.Own.{Own}
use Rattle.call_machine.specs.declared.read.ReadStage.{ReadStage}
use Rattle.call_machine.specs.declared.read.ReadStage.TheVariants as read
use Rattle.call_machine.specs.declared.stage.Along.{Along}
use Rattle.call_machine.specs.declared.stage.Asked.{Asked}
use Rattle.call_machine.specs.declared.stage.CallStage.{CallStage}
use Rattle.call_machine.specs.declared.stage.CallStage.TheVariants as stage
use Rattle.call_machine.specs.declared.stage.Goal.{Goal}
use Rattle.call_machine.specs.declared.stage.Goal.TheVariants as goal
use Rattle.call_machine.specs.declared.work.Work.{Work}
use Rattle.call_machine.specs.BeginCall.{begins, begun_walk, no_handle, too_long}
use Rattle.call_machine.specs.Calls.{plan_at, next_at}
use Rattle.call_machine.specs.Leave.{leaves_with}
use Rattle.call_machine.specs.Machine.{starts, beside, begun_grace_poll, begun_work_poll, plan_of, got_of}
use Rattle.call_machine.specs.Read.{read_row, read_all, reads_from}
use Rattle.call_machine.specs.Sought.{is_too_long}
use Rattle.call_machine.proofs.Machines.{plan_is, got_is}
use Rattle.cht_core.specs.declared.table.Table.{Table}
use Rattle.cht_core.specs.Flow.{Flow}
use Rattle.cht_core.specs.KnowsCall.{KnowsRead, KnowsStage, Reading}
use Rattle.cht_core.specs.Memory.{Memory, IsMade, found}
use Rattle.cht_core.specs.Past.{Past, past_of}
use Rattle.cht_core.specs.Rely.{Grows}
use Rattle.cht_core.specs.TableState.{IsTable}
use Rattle.cht_core.specs.View.{KnowsMachine, kind_in}
use Rattle.cht_core.proofs.Basics.{after_load}
use Rattle.cht_core.proofs.CauseCounts.{created_in, created_longer}
use Rattle.cht_core.proofs.CauseWords.{linked_since, texts_are}
use Rattle.cht_core.proofs.LiveCounts.{LiveAt, live_held, live_made}
use Rattle.cht_core.proofs.ReadStages.{length_of_text}
use Rattle.cht_run.specs.ReadKept.{TextKept, ReadKept, StageKept, MachineKept, StageReads, MachineReads}
use Rattle.cht_run.proofs.Unread.{IsUnread, unread_next}

-- a counted table needs none of it, nor do the stages before the entry is seen
counted_kept : (m : Memory) (seed : ℕ) (log : List Event) (h : Handle) (s : ReadStage) → ReadKept m seed log h Counted s
counted_kept m seed log h (read.Enter s) = tt
counted_kept m seed log h read.Count = tt
counted_kept m seed log h read.Meta = tt
counted_kept m seed log h (read.Text at len) = tt

enter_kept : (m : Memory) (seed : ℕ) (log : List Event) (h : Handle) (kind : Kind) (s : _) → ReadKept m seed log h kind (read.Enter s)
enter_kept m seed log h Counted s = tt
enter_kept m seed log h Weak s = tt

count_kept : (m : Memory) (seed : ℕ) (log : List Event) (h : Handle) (kind : Kind) → ReadKept m seed log h kind read.Count
count_kept m seed log h Counted = tt
count_kept m seed log h Weak = tt

unread_kept : (m : Memory) (seed : ℕ) (log : List Event) (q : Asked) (s : CallStage) → IsUnread s → StageKept m seed log q s
unread_kept m seed log q (stage.Read s) is = absurd is
unread_kept m seed log q (stage.Answered a) is = tt
unread_kept m seed log q (stage.Draw s) is = tt
unread_kept m seed log q (stage.Find s) is = tt
unread_kept m seed log q (stage.Node s) is = tt
unread_kept m seed log q (stage.Insert s) is = tt
unread_kept m seed log q (stage.Leave s) is = tt
unread_kept m seed log q (stage.Handle s) is = tt

-- STEPS OF OTHERS

module _ (m m' : Memory) (p p' : Past) (f f' : Flow) (i load : ℕ) (passed : List ℕ) (seed : ℕ) (log more : List Event) (grows : Grows m p f m' p' f') where
  text_waits : (h : Handle) (other : List ℕ) → Reading m p.now i h other → (kept : TextKept m seed log h) → (after : TextKept m' seed (log ++ more) h) × (after.text ≡ kept.text)
  text_waits h other r kept =
      let same : (m' (place.Meta h.slot) ≡ m (place.Meta h.slot)) × ((at : ℕ) → m' (place.Text h.slot at) ≡ m (place.Text h.slot at)) =
      grows.words i h.slot r.section r.inside (elim r.held [ inl l ↦ inl (other, h, l.0, l.1) | inr u ↦ inr u ]) in (
        record {
          text = kept.text;
          created = created_longer log more kept.text h kept.created;
          short = kept.short;
          words = (same.0 ∙ kept.words.0, λ at less within. same.1 at ∙ kept.words.1 at less within);
        },
        refl,
      )

  read_waits : (q : Asked) (kind : Kind) (s : ReadStage) → KnowsRead m p f i q kind s → ReadKept m seed log q.handle kind s → ReadKept m' seed (log ++ more) q.handle kind s
  read_waits q Counted s knows kept = counted_kept m' seed (log ++ more) q.handle s
  read_waits q Weak (read.Enter s) knows kept = tt
  read_waits q Weak read.Count knows kept = tt
  read_waits q Weak read.Meta knows kept = (text_waits q.handle knows.0 knows.1 kept).0
  read_waits q Weak (read.Text at len) knows kept = let after = text_waits q.handle knows.0 knows.1 kept.0 in (after.0, kept.1 ∙ ap length (sym after.1))

  -- steps of others leave it
  pub reads_waits : (x : Machine) → KnowsMachine m p f i load passed x → MachineKept m seed log x → MachineKept m' seed (log ++ more) x
  reads_waits (machine.Call c w g) knows kept = by_stage c.stage knows.0.0 kept
    where
      by_stage : (s : CallStage) → KnowsStage m p f i load passed c.asked c.along s → StageKept m seed log c.asked s → StageKept m' seed (log ++ more) c.asked s
      by_stage (stage.Read s) knows kept = read_waits c.asked c.asked.kind s knows kept
      by_stage (stage.Answered a) knows kept = tt
      by_stage (stage.Draw s) knows kept = tt
      by_stage (stage.Find s) knows kept = tt
      by_stage (stage.Node s) knows kept = tt
      by_stage (stage.Insert s) knows kept = tt
      by_stage (stage.Leave s) knows kept = tt
      by_stage (stage.Handle s) knows kept = tt
  reads_waits (machine.Begin b) knows kept = tt
  reads_waits (machine.Poll q) knows kept = tt
  reads_waits (machine.Sweep s) knows kept = tt

-- BEGINNINGS

module _ (m : Memory) (seed : ℕ) (log : List Event) where
  walk_starts : (caller : Caller) (own : Own) (g : Goal) (text : List ℕ) → MachineKept m seed log (beside own (begun_walk caller g text))
  walk_starts caller own g text = by_test (is_too_long caller.shape text)
    where
      by_test : (b : Bool) → MachineKept m seed log (beside own (cond b (begins caller g [] no_handle (stage.Answered (too_long g))) (begins caller g text no_handle (stage.Find (Rattle.call_machine.specs.declared.find.FindStage.TheVariants.Enter enter.LoadCounter)))))
      by_test true = tt
      by_test false = tt

  grace_starts : (caller : Caller) (g : Option Grace) → MachineKept m seed log (begun_grace_poll caller g)
  grace_starts caller None = tt
  grace_starts caller (Some g) = tt

  work_starts : (caller : Caller) (w : Option Work) → MachineKept m seed log (begun_work_poll caller w)
  work_starts caller None = tt
  work_starts caller (Some w) = tt

  read_starts : (kind : Kind) (h : Handle) → ReadKept m seed log h kind (Rattle.call_machine.specs.Read.first_read kind)
  read_starts Counted h = tt
  read_starts Weak h = tt

  -- each call at its first stage
  pub reads_begins : (caller : Caller) (own : Own) (c : Call) → MachineKept m seed log (starts caller own c)
  reads_begins caller own (call.Intern text) = walk_starts caller own goal.Intern text.now
  reads_begins caller own (call.Lookup text) = walk_starts caller own goal.Lookup text.now
  reads_begins caller own (call.InternWait text) = walk_starts caller own goal.InternWait text.now
  reads_begins caller own call.PollGrace = grace_starts caller own.grace
  reads_begins caller own call.PollWork = work_starts caller own.work
  reads_begins caller own call.Split = tt
  reads_begins caller own (call.TextOf h) = read_starts caller.kind h
  reads_begins caller own (call.Drop h) = tt
  reads_begins caller own (call.Permanent h) = tt
  reads_begins caller own (call.Kill h) = tt
  reads_begins caller own call.BeginClean = tt
  reads_begins caller own call.BeginGrow = tt
  reads_begins caller own call.BeginShrink = tt
  reads_begins caller own call.BeginGrace = tt
  reads_begins caller own (call.Sweep text) = tt

-- ITS OWN STEPS

module _ (t : Table) (m : Memory) (f : Flow) (i load : ℕ) (passed : List ℕ) (log : List Event) (seats : i < t.shape.seats) (table : IsTable t m (past_of t.shape.min_level log) f) where
  abbrev p : Past
  p = past_of t.shape.min_level log

  abbrev seed : ℕ
  seed = p.now.seed

  live_created : (text : List ℕ) (h : Handle) → LiveAt m p.now h.slot text h → IsCreatedAs log text h
  live_created text h live = created_in log text h (subst (λ x. HasHandle x text h) (texts_are t i [] [] tt log) (live.entry, live.is, live.own))

  -- a slot is linked by a Create
  linked_created : (text : List ℕ) (h : Handle) (born : ℕ) → p.now.slot h.slot ≡ Linked text h born → IsCreatedAs log text h
  linked_created text h born linked = elim (linked_since (opening t.shape.min_level) log h.slot text h born linked) [
    | inl never ↦ absurd (cc)
    | inr (front, back, seat, split, at) ↦ (front, back, seat, split)
  ]

  live_kept : (text : List ℕ) (h : Handle) → LiveAt m p.now h.slot text h → TextKept m seed log h
  live_kept text h live = record {
    text = text;
    created = live_created text h live;
    short = (table.slots.rooms h.slot text h live.born live.linked).0.0;
    words = (table.slots.metas h.slot text h live.born live.linked, table.slots.texts h.slot text h live.born live.linked);
  }

  module _ (q : Asked) (w : Along) (kind_is : q.kind ≡ t.kind) where
    -- the length and the words that it finds are those of the text
    meta_says : (kind : Kind) → q.kind ≡ kind → KnowsRead m p f i q kind read.Meta → ReadKept m seed log q.handle kind read.Meta → StageReads log q.handle (stage.Read read.Meta) (m (place.Meta q.handle.slot))
    meta_says Counted is knows kept =
        let live = live_held t m p f table i q.handle (sym kind_is ∙ is) seats knows.1 in (
          live.0,
          live_created live.0 q.handle live.1,
          length_of_text seed live.0 (m (place.Meta q.handle.slot)) (table.slots.metas q.handle.slot live.0 q.handle live.1.born live.1.linked) (table.slots.rooms q.handle.slot live.0 q.handle live.1.born live.1.linked).0.0,
        )
    meta_says Weak is knows kept = (kept.text, kept.created, length_of_text seed kept.text (m (place.Meta q.handle.slot)) kept.words.0 kept.short)

    text_says : (kind : Kind) (at len : ℕ) → KnowsRead m p f i q kind (read.Text at len) → ReadKept m seed log q.handle kind (read.Text at len) → StageReads log q.handle (stage.Read (read.Text at len)) (m (place.Text q.handle.slot at))
    text_says Counted at len (outside, holds, (text, born, linked, long)) kept = (
      text,
      linked_created text q.handle born linked,
      long,
      λ less. let within : at < words_of (length text) = subst (λ n. at < words_of n) long less in table.slots.texts q.handle.slot text q.handle born linked at within within,
    )
    text_says Weak at len knows kept = (
      kept.0.text,
      kept.0.created,
      kept.1,
      λ less. let within : at < words_of (length kept.0.text) = subst (λ n. at < words_of n) kept.1 less in kept.0.words.1 at within within,
    )

    stage_says : (s : ReadStage) → KnowsRead m p f i q q.kind s → ReadKept m seed log q.handle q.kind s → StageReads log q.handle (stage.Read s) (found (read_row q w s).step m)
    stage_says (read.Enter s) knows kept = tt
    stage_says read.Count knows kept = tt
    stage_says read.Meta knows kept = meta_says q.kind refl knows kept
    stage_says (read.Text at len) knows kept = text_says q.kind at len knows kept

    -- where the words are read from one on
    from_kept : (at len : ℕ) → ReadKept m seed log q.handle q.kind (read.Text at len) → StageKept m seed log q (reads_from q.kind at len)
    from_kept at len kept = by_test (nat_lt at (words_of len)) q.kind
      where
        by_kind : (kind : Kind) → StageKept m seed log q (read_all kind (answer.Text len))
        by_kind Counted = tt
        by_kind Weak = tt

        by_test : (more : Bool) (kind : Kind) → StageKept m seed log q (cond more (stage.Read (read.Text at len)) (read_all kind (answer.Text len)))
        by_test true kind = kept
        by_test false kind = by_kind kind

    loaded_kept : (kind : Kind) → q.kind ≡ kind → (s : ReadStage) → KnowsRead m p f i q kind s → ReadKept m seed log q.handle kind s → StageKept m seed log q (next_at q w (stage.Read s) (found (read_row q w s).step m)).1
    loaded_kept kind is (read.Enter enter.LoadCounter) knows kept = enter_kept m seed log q.handle q.kind (enter.OpenSection (m place.Counter))
    loaded_kept kind is (read.Enter (enter.OpenSection counter)) knows kept = count_kept m seed log q.handle q.kind
    loaded_kept Counted is read.Count knows kept = absurd knows
    loaded_kept Weak is read.Count knows kept = by_test (is_live q.handle (m (place.Count q.handle.slot))) refl
      where
        by_test : (b : Bool) → is_live q.handle (m (place.Count q.handle.slot)) ≡ b → StageKept m seed log q (cond b (stage.Read read.Meta) (leaves_with None answer.Stale))
        by_test true live = let entry = live_made t m p f table q.handle knows.1 live in subst (λ k. ReadKept m seed log q.handle k read.Meta) (sym is) (live_kept entry.0 q.handle entry.1)
        by_test false stale = tt
    loaded_kept Counted is read.Meta knows kept = from_kept 0 (length_in (m (place.Meta q.handle.slot))) (subst (λ k. ReadKept m seed log q.handle k (read.Text 0 (length_in (m (place.Meta q.handle.slot))))) (sym is) tt)
    loaded_kept Weak is read.Meta knows kept = from_kept 0 (length_in (m (place.Meta q.handle.slot)))
        (subst (λ k. ReadKept m seed log q.handle k (read.Text 0 (length_in (m (place.Meta q.handle.slot))))) (sym is) (kept, length_of_text seed kept.text (m (place.Meta q.handle.slot)) kept.words.0 kept.short))
    loaded_kept Counted is (read.Text at len) knows kept = from_kept (at + 1) len (subst (λ k. ReadKept m seed log q.handle k (read.Text (at + 1) len)) (sym is) tt)
    loaded_kept Weak is (read.Text at len) knows kept = from_kept (at + 1) len (subst (λ k. ReadKept m seed log q.handle k (read.Text (at + 1) len)) (sym is) kept)

  -- a longer log has it too
  read_longer : (more : List Event) (h : Handle) (kind : Kind) (s : ReadStage) → ReadKept m seed log h kind s → ReadKept m seed (log ++ more) h kind s
  read_longer more h Counted s kept = counted_kept m seed (log ++ more) h s
  read_longer more h Weak (read.Enter s) kept = tt
  read_longer more h Weak read.Count kept = tt
  read_longer more h Weak read.Meta kept = record { text = kept.text; created = created_longer log more kept.text h kept.created; short = kept.short; words = kept.words }
  read_longer more h Weak (read.Text at len) kept =
      (record { text = kept.0.text; created = created_longer log more kept.0.text h kept.0.created; short = kept.0.short; words = kept.0.words }, kept.1)

  stage_longer : (more : List Event) (q : Asked) (s : CallStage) → StageKept m seed log q s → StageKept m seed (log ++ more) q s
  stage_longer more q (stage.Read s) kept = read_longer more q.handle q.kind s kept
  stage_longer more q (stage.Answered a) kept = tt
  stage_longer more q (stage.Draw s) kept = tt
  stage_longer more q (stage.Find s) kept = tt
  stage_longer more q (stage.Node s) kept = tt
  stage_longer more q (stage.Insert s) kept = tt
  stage_longer more q (stage.Leave s) kept = tt
  stage_longer more q (stage.Handle s) kept = tt

  module _ (m' : Memory) (more : List Event) (q : Asked) (w : Along) (kind_is : q.kind ≡ t.kind) where
    -- a load changes no word
    after_loaded : (s : ReadStage) → (access_of (read_row q w s).step).deed ≡ deed.Load → IsMade (read_row q w s).step m m' → KnowsRead m p f i q q.kind s → ReadKept m seed log q.handle q.kind s →
        StageKept m' seed (log ++ more) q (next_at q w (stage.Read s) (found (read_row q w s).step m)).1
    after_loaded s loads made knows kept =
        subst (λ (x : Memory). StageKept x seed (log ++ more) q (next_at q w (stage.Read s) (found (read_row q w s).step m)).1) (sym (after_load (read_row q w s).step m m' loads made))
        (stage_longer more q (next_at q w (stage.Read s) (found (read_row q w s).step m)).1 (loaded_kept q w kind_is q.kind refl s knows kept))

    after_read : (s : ReadStage) → IsMade (read_row q w s).step m m' → KnowsRead m p f i q q.kind s → ReadKept m seed log q.handle q.kind s → StageKept m' seed (log ++ more) q (next_at q w (stage.Read s) (found (read_row q w s).step m)).1
    after_read (read.Enter enter.LoadCounter) made knows kept = after_loaded (read.Enter enter.LoadCounter) refl made knows kept
    after_read (read.Enter (enter.OpenSection counter)) made knows kept = count_kept m' seed (log ++ more) q.handle q.kind
    after_read read.Count made knows kept = after_loaded read.Count refl made knows kept
    after_read read.Meta made knows kept = after_loaded read.Meta refl made knows kept
    after_read (read.Text at len) made knows kept = after_loaded (read.Text at len) refl made knows kept

    after_stage : (s : CallStage) (stp : Step) → plan_at q w s ≡ plan.Step stp → IsMade stp m m' → KnowsStage m p f i load passed q w s → StageKept m seed log q s → StageKept m' seed (log ++ more) q (next_at q w s (found stp m)).1
    after_stage (stage.Read s) stp planned made knows kept =
        let same : (read_row q w s).step ≡ stp = cc in
        subst (λ (x : Step). StageKept m' seed (log ++ more) q (next_at q w (stage.Read s) (found x m)).1) same (after_read s (subst (λ (x : Step). IsMade x m m') (sym same) made) knows kept)
    after_stage (stage.Answered a) stp planned made knows kept = tt
    after_stage (stage.Draw s) stp planned made knows kept = unread_kept m' seed (log ++ more) q (next_at q w (stage.Draw s) (found stp m)).1 (unread_next q w (stage.Draw s) (found stp m) tt)
    after_stage (stage.Find s) stp planned made knows kept = unread_kept m' seed (log ++ more) q (next_at q w (stage.Find s) (found stp m)).1 (unread_next q w (stage.Find s) (found stp m) tt)
    after_stage (stage.Node s) stp planned made knows kept = unread_kept m' seed (log ++ more) q (next_at q w (stage.Node s) (found stp m)).1 (unread_next q w (stage.Node s) (found stp m) tt)
    after_stage (stage.Insert s) stp planned made knows kept = unread_kept m' seed (log ++ more) q (next_at q w (stage.Insert s) (found stp m)).1 (unread_next q w (stage.Insert s) (found stp m) tt)
    after_stage (stage.Leave s) stp planned made knows kept = unread_kept m' seed (log ++ more) q (next_at q w (stage.Leave s) (found stp m)).1 (unread_next q w (stage.Leave s) (found stp m) tt)
    after_stage (stage.Handle s) stp planned made knows kept = unread_kept m' seed (log ++ more) q (next_at q w (stage.Handle s) (found stp m)).1 (unread_next q w (stage.Handle s) (found stp m) tt)

  -- its own step
  pub reads_steps : (m' : Memory) (more : List Event) (x : Machine) (stp : Step) → plan_of x ≡ plan.Step stp → kind_in x ≡ t.kind → IsMade stp m m' → KnowsMachine m p f i load passed x → MachineKept m seed log x →
      MachineKept m' seed (log ++ more) (got_of x (found stp m))
  reads_steps m' more (machine.Call c w g) stp planned kind made knows kept =
      subst (MachineKept m' seed (log ++ more)) (sym (got_is (machine.Call c w g) (found stp m)))
      (after_stage m' more c.asked c.along kind c.stage stp (sym (plan_is (machine.Call c w g)) ∙ planned) made knows.0.0 kept)
  reads_steps m' more (machine.Begin b) stp planned kind made knows kept = subst (MachineKept m' seed (log ++ more)) (sym (got_is (machine.Begin b) (found stp m))) tt
  reads_steps m' more (machine.Poll q) stp planned kind made knows kept = subst (MachineKept m' seed (log ++ more)) (sym (got_is (machine.Poll q) (found stp m))) tt
  reads_steps m' more (machine.Sweep s) stp planned kind made knows kept = subst (MachineKept m' seed (log ++ more)) (sym (got_is (machine.Sweep s) (found stp m))) tt

  -- and what it says
  pub reads_say : (x : Machine) (stp : Step) → plan_of x ≡ plan.Step stp → kind_in x ≡ t.kind → KnowsMachine m p f i load passed x → MachineKept m seed log x → MachineReads log x (found stp m)
  reads_say (machine.Call c w g) stp planned kind knows kept = by_stage c.stage (sym (plan_is (machine.Call c w g)) ∙ planned) knows.0.0 kept
    where
      by_stage : (s : CallStage) → plan_at c.asked c.along s ≡ plan.Step stp → KnowsStage m p f i load passed c.asked c.along s → StageKept m seed log c.asked s → StageReads log c.asked.handle s (found stp m)
      by_stage (stage.Read s) planned knows kept =
          let same : (read_row c.asked c.along s).step ≡ stp = cc in
          subst (λ (x : Step). StageReads log c.asked.handle (stage.Read s) (found x m)) same (stage_says c.asked c.along kind s knows kept)
      by_stage (stage.Answered a) planned knows kept = tt
      by_stage (stage.Draw s) planned knows kept = tt
      by_stage (stage.Find s) planned knows kept = tt
      by_stage (stage.Node s) planned knows kept = tt
      by_stage (stage.Insert s) planned knows kept = tt
      by_stage (stage.Leave s) planned knows kept = tt
      by_stage (stage.Handle s) planned knows kept = tt
  reads_say (machine.Begin b) stp planned kind knows kept = tt
  reads_say (machine.Poll q) stp planned kind knows kept = tt
  reads_say (machine.Sweep s) stp planned kind knows kept = tt
