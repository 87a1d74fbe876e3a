-- Works that are waited for are done.
use Rattle.std.proofs.Common.{◌≡◌, ℕ, ◌+◌, ◌-◌, ◌^◌, ◌<◌, true, List, [], ◌∷◌, ◌++◌, Option, Some, None, refl, sym, ap, subst, ◌∙◌, arith}
use Rattle.table_shape.specs.declared.shape.Shape.{Shape}
use Rattle.table_shape.specs.Shape.{IsSound}
use Rattle.intern_log.specs.declared.event.Event.{Event}
use Rattle.intern_log.specs.declared.event.What.{What}
use Rattle.intern_log.specs.declared.event.What.TheVariants as what
use Rattle.atomic_step.specs.declared.answer.Answer.{Answer}
use Rattle.atomic_step.specs.declared.answer.Answer.TheVariants as answer
use Rattle.atomic_step.specs.declared.answer.Worked.{Worked}
use Rattle.atomic_step.specs.Monitor as monitor
use Rattle.atomic_step.specs.Monitor.{after_all}
use Rattle.atomic_step.specs.Run.{after_words, events_of_words}
use Rattle.atomic_step.specs.SoundStep.{IsLevel}
use Rattle.call_machine.specs.declared.begin.Task.{Task}
use Rattle.call_machine.specs.declared.begin.Task.TheVariants as task
use Rattle.call_machine.specs.declared.resize.Direction.{Direction}
use Rattle.call_machine.specs.declared.resize.Direction.TheVariants.{Grow, Shrink}
use Rattle.call_machine.specs.declared.work.Work.{Work as Working}
use Rattle.call_machine.specs.declared.work.Work.TheVariants as work
use Rattle.call_machine.specs.declared.clean.Clean.{Clean}
use Rattle.call_machine.specs.declared.clean.CleanStage.TheVariants.{LoadLevel}
use Rattle.cht_core.specs.Graces.{WorkedWithFew}
use Rattle.cht_core.specs.Passes.{HasCleaned}
use Rattle.call_machine.specs.declared.resize.Resize.{Resize}
use Rattle.call_machine.specs.declared.resize.ResizeStage.TheVariants.{PutNewLevel}
use Rattle.call_machine.specs.Clean.{begun_clean}
use Rattle.call_machine.specs.Resize.{begun_resize, end_level}
use Rattle.call_machine.specs.WorkMonitor.{locked, counts}
use Rattle.call_machine.specs.ResizeRuns.{is_done, IsRun, ends_at, events_of_run, moves_of_run}
use Rattle.call_machine.specs.ResizeRuns as resize
use Rattle.call_machine.specs.SoundResize.{LeadsToLevel}
use Rattle.call_machine.specs.WholeClean as whole
use Rattle.call_machine.specs.Work.{begun_work, resumes}
use Rattle.call_machine.proofs.CleanGraces.{graces_law}
use Rattle.call_machine.proofs.ResizeEnds.{grow_graces_law, shrink_graces_law, told_law}
use Rattle.call_machine.proofs.ResizeLocks.{whole_heads_law}
use Rattle.call_machine.proofs.WholeClean.{counts_end, locks_end}
use Rattle.call_machine.proofs.WorkRuns.{cleans_law, resizes_law}
use Rattle.cht_core.specs.declared.table.Table.{Table}
use Rattle.cht_core.specs.Causes.{IsSpent, IsBusy, IsAtLevel}
use Rattle.cht_core.specs.Windows.{Somewhere}
use Rattle.cht_run.specs.declared.seat.Seat.{Seat}
use Rattle.cht_run.specs.declared.sight.Origin.{Origin}
use Rattle.cht_run.specs.declared.table.Cht.{Cht}
use Rattle.cht_run.specs.declared.waits.Finished.TheVariants as finished
use Rattle.cht_run.specs.declared.works.Tried.{Tried}
use Rattle.cht_run.specs.declared.works.Tried.TheVariants as tried
use Rattle.cht_run.specs.declared.work.Work.{Work}
use Rattle.cht_run.specs.Ended.{Ended, Always, Only}
use Rattle.cht_run.specs.Ends.{HasNothing}
use Rattle.cht_run.specs.Graces.{counter_in, IsUnspent}
use Rattle.cht_run.specs.History.{log_of}
use Rattle.cht_run.specs.Seats.{history, seen, work_of, IsOf}
use Rattle.cht_run.specs.Unlinks.{HasFreed, HasNoLock}
use Rattle.cht_run.specs.Waits.{ends_last, CleanDid, heads_left, HasGraces, ResizeDid, FinishesWork, DidSo, FinishedSo, Finishes}
use Rattle.cht_run.specs.Works.{HasFinished, IsWorkOf, IsRefused, WasLevel, left_by, WasSo, BeginsWork, Runs, IsDone, IsLeft, Leaves}
use Rattle.cht_run.proofs.DeadUnlinked.{unlinks_dead}
use Rattle.cht_run.proofs.Histories.{log-append}
use Rattle.cht_run.proofs.Following.{because, ended_both, not_called, later, earlier}
use Rattle.cht_run.proofs.LastEvents.{clean_ends_last, resize_ends_last}
use Rattle.cht_run.proofs.WorkRuns.{runs_none, runs_both}

-- A WORK BEGINS AFTER THOSE OF OTHERS

later_unspent : (t : Table) (seen seen' one two : List Event) → seen' ≡ seen ++ one → IsUnspent t seen' two → IsUnspent t seen (one ++ two)
later_unspent t seen seen' one two is h = later (λ log. counter_in t log < 2 ^ 48) seen seen' one two is h

later_level : (t : Table) (level : ℕ) (seen seen' one two : List Event) → seen' ≡ seen ++ one → WasLevel t level seen' two → WasLevel t level seen (one ++ two)
later_level t level seen seen' one two is h = (later_unspent t seen seen' one two is h.0, later (IsAtLevel t level) seen seen' one two is h.1)

later_so : (t : Table) (x : Task) (level : ℕ) (seen seen' one two : List Event) → seen' ≡ seen ++ one → WasSo t x level seen' two → WasSo t x level seen (one ++ two)
later_so t task.Clean level seen seen' one two is h = later_unspent t seen seen' one two is h
later_so t task.Grow level seen seen' one two is h = later_level t level seen seen' one two is h
later_so t task.Shrink level seen seen' one two is h = later_level t level seen seen' one two is h

module _ (t : Table) (x : Task) (old mid new : Seat) (waited : Ended t old mid (Only []) Always) where
  pub begins_later : (r : Tried) → BeginsWork t x mid new r → BeginsWork t x old new r
  begins_later (tried.Spent counter) (none, ended) = (
    none,
    ended_both t old mid new [] [] Always (λ seen window. IsSpent t seen window counter) (λ seen window. IsSpent t seen window counter) waited ended
        (λ seen' is any h. (later (λ log. counter ≡ counter_in t log) (seen old) seen' (log_of waited.window) (log_of ended.window) is h.0, h.1)),
  )
  begins_later tried.Busy (none, ended) = (
    none,
    ended_both t old mid new [] [] Always (λ seen window. IsRefused t mid.number seen window) (λ seen window. IsRefused t old.number seen window) waited ended
        (λ seen' is any h. (
          later_unspent t (seen old) seen' (log_of waited.window) (log_of ended.window) is h.0,
          subst (λ n. Somewhere (IsBusy t n) (seen old) (log_of waited.window ++ log_of ended.window)) waited.keeps.number (later (IsBusy t mid.number) (seen old) seen' (log_of waited.window) (log_of ended.window) is h.1),
        )),
  )
  begins_later (tried.AtBound level) (none, bound, ended) = (
    none,
    bound,
    ended_both t old mid new [] (what.ResizeTaken ∷ what.ResizeGiven ∷ []) Always (λ seen window. WasLevel t level seen window) (λ seen window. WasLevel t level seen window) waited ended
        (λ seen' is any h. later_level t level (seen old) seen' (log_of waited.window) (log_of ended.window) is h),
  )
  begins_later (tried.Begun w) (level, has, bound, ended) = (
    level,
    has,
    bound,
    ended_both t old mid new [] (what.ResizeTaken ∷ []) Always (λ seen window. WasSo t x level seen window) (λ seen window. WasSo t x level seen window) waited ended
        (λ seen' is any h. later_so t x level (seen old) seen' (log_of waited.window) (log_of ended.window) is h),
  )

  -- where it is refused the seat waits on
  pub waits_on : BeginsWork t x mid new tried.Busy → HasNothing new × Ended t old new (Only []) Always
  waits_on (none, ended) = (none, ended_both t old mid new [] [] Always (λ seen window. IsRefused t mid.number seen window) Always waited ended (λ seen' is any h. tt))

-- A WORK IS POLLED AGAIN

-- so far a work that its seat had unfinished was polled
abbrev pub IsSoFar : Table → Working → Seat → Seat → Work → Type 0
IsSoFar t state old now w = (did : List What) × IsLeft t state did w now × Ended t old now (Only did) Always

pub none_so_far : (t : Table) (state state' : Working) (old : Seat) (w : Work) → IsWorkOf w state old → work_of old ≡ Some state' → IsSoFar t state' old old w
none_so_far t state state' old w has is =
    let same : Some state ≡ Some state' = sym has.unfinished ∙ is in
    let one : state ≡ state' = cc in
    ([], (state', subst (λ x. IsWorkOf w x old) one has, runs_none t.shape state'), not_called t old)

module _ (t : Table) (state : Working) (old mid new : Seat) (w : Work) (far : IsSoFar t state old mid w) where
  pub polled_on : (w' : Work) (a : Answer) → ((x : Working) → work_of mid ≡ Some x → Leaves t x mid new w' a) → IsSoFar t state old new w'
  polled_on w' a polled =
      let (did, (now, has, runs), ended) = far in
      let (more, (next, is_next, on), since) = polled now has.unfinished in
      (did ++ more, (next, is_next, runs_both t.shape state now did more (resumes next) runs on), ended_both t old mid new did more Always _ Always ended since (λ seen' is any h. tt))

  pub finished_on : (worked : Worked) → ((x : Working) → work_of mid ≡ Some x → HasNothing new × ((did : List What) × IsDone t x did worked new × Ended t mid new (Only did) Always)) → FinishesWork t state old new worked
  finished_on worked polled =
      let (did, (now, has, runs), ended) = far in
      let (none, (more, (last, on, so), since)) = polled now has.unfinished in
      (none, (did ++ more, (last, runs_both t.shape state now did more (last, Some (answer.Done worked)) runs on, so), ended_both t old mid new did more Always Always Always ended since (λ seen' is any h. tt)))

-- what is so of a work that is polled on and on
pub left_on : (t : Table) (old mid new : Seat) (w w' : Work) (a : Answer) → (state : Working) × IsWorkOf w state mid → ((state : Working) → work_of old ≡ Some state → IsSoFar t state old mid w) →
    ((x : Working) → work_of mid ≡ Some x → Leaves t x mid new w' a) → ((state : Working) × IsWorkOf w' state new) × ((state : Working) → work_of old ≡ Some state → IsSoFar t state old new w')
left_on t old mid new w w' a has far polled =
    ((let (did, (next, is, on), since) = polled has.0 has.1.unfinished in (next, is)), λ state is. polled_on t state old mid new w (far state is) w' a polled)

-- WHAT A WORK DID THAT IS DONE

least_level : (shape : Shape) → IsSound shape → IsLevel shape shape.min_level
least_level shape sound = let levels = sound.levels.0 in (omega arith, levels)

-- a clean from its beginning on
abbrev clean_from : Shape → Working
clean_from shape = work.Clean (record { along = begun_clean shape.min_level; stage = LoadLevel })

clean_did : (shape : Shape) (did : List What) (worked : Worked) (last : Working) → IsSound shape → Runs shape (clean_from shape) did (last, Some (answer.Done worked)) → CleanDid did worked
clean_did shape did worked last sound runs =
    let level = least_level shape sound in
    let ran = cleans_law shape (whole.begun shape.min_level) runs.words runs.fitting in
    let end = after_words (whole.cleans shape) (whole.begun shape.min_level) runs.words in
    let made : events_of_words (whole.cleans shape) (whole.begun shape.min_level) runs.words ≡ did = sym ran.1 ∙ runs.made in
    let done : end.2 ≡ Some (answer.Done worked) = ap (λ (at : Working × Option Answer). at.1) (sym ran.2 ∙ runs.leads) in
    record {
      counts = ap (after_all counts (Some (0, 0))) (sym made) ∙ counts_end shape shape.min_level runs.words worked sound level ran.0 done;
      few = graces_law shape shape.min_level runs.words worked sound level ran.0 done;
      locks = ap (after_all locked (Some None)) (sym made) ∙ locks_end shape shape.min_level runs.words worked sound level ran.0 done;
      ends = ap (after_all ends_last (Some (what.ResizeGiven ∷ []))) (sym made) ∙ clean_ends_last shape shape.min_level runs.words worked sound level ran.0 done;
    }

-- a grow or a shrink from its beginning on
abbrev resize_from : Direction → ℕ → Working
resize_from d level = work.Resize (record { direction = d; along = begun_resize level; stage = PutNewLevel })

graces_so : (shape : Shape) (d : Direction) (level : ℕ) (words : List ℕ) → IsRun shape d level words → is_done (ends_at shape d level words).1 ≡ true →
    (n : ℕ) × (after_all monitor.graces (Some 0) (events_of_run shape d level words) ≡ Some n) × HasGraces d level n
graces_so shape Grow level words run done = (moves_of_run shape Grow level words + 1, grow_graces_law shape level words run done, tt)
graces_so shape Shrink level words run done = (2 ^ (level - 1) + 1, shrink_graces_law shape level words run done, refl)

heads_so : (shape : Shape) (d : Direction) (level : ℕ) (words : List ℕ) → IsRun shape d level words → is_done (ends_at shape d level words).1 ≡ true →
    after_all monitor.locked (Some []) (events_of_run shape d level words) ≡ Some (heads_left d level)
heads_so shape Grow level words run done = whole_heads_law shape Grow level words run done
heads_so shape Shrink level words run done = whole_heads_law shape Shrink level words run done

resize_did : (shape : Shape) (d : Direction) (level : ℕ) (did : List What) (worked : Worked) (last : Working) → IsSound shape → LeadsToLevel shape d level →
    Runs shape (resize_from d level) did (last, Some (answer.Done worked)) → ResizeDid d level did worked
resize_did shape d level did worked last sound leads runs =
    let ran = resizes_law shape d (resize.begun level) runs.words runs.fitting in
    let run : IsRun shape d level runs.words = (sound, leads, ran.0) in
    let made : events_of_run shape d level runs.words ≡ did = sym ran.1 ∙ runs.made in
    let is : (ends_at shape d level runs.words).1 ≡ Some (answer.Done worked) = ap (λ (at : Working × Option Answer). at.1) (sym ran.2 ∙ runs.leads) in
    let done : is_done (ends_at shape d level runs.words).1 ≡ true = ap is_done is in
    let (n, counted, so) = graces_so shape d level runs.words run done in
    let told = told_law shape d level runs.words worked n run is counted in
    record {
      ends = ap (after_all ends_last (Some (what.Level (end_level d level) ∷ what.ResizeGiven ∷ []))) (sym made) ∙ resize_ends_last shape d level runs.words run done;
      level_is = told.2;
      unlinked = told.0;
      graces = n;
      counts = ap (after_all monitor.graces (Some 0)) (sym made) ∙ counted;
      graces_is = told.1;
      graces_so = so;
      locks = ap (after_all monitor.locked (Some [])) (sym made) ∙ heads_so shape d level runs.words run done;
    }

-- the work that was begun leads to a level of the table
leads_so : (cht : Cht) (mid : Seat) (w : Work) (d : Direction) (level : ℕ) → IsOf cht mid → IsWorkOf w (resize_from d level) mid → LeadsToLevel cht.origin.table.shape d level
leads_so cht mid w d level of has = subst (λ (o : Origin). LeadsToLevel o.table.shape d level) of.origin has.sound.along.level

some_work : (x y : Working) → Some x ≡ Some y → x ≡ y
some_work x y same = cc

did_so : (cht : Cht) (mid : Seat) (w : Work) (x : Task) (level : ℕ) (state : Working) (did : List What) (worked : Worked) → IsOf cht mid → begun_work cht.origin.table.shape (left_by x level) ≡ Some state → IsWorkOf w state mid →
    (new : Seat) → IsDone cht.origin.table state did worked new → DidSo x level did worked
did_so cht mid w task.Clean level state did worked of is has new (last, runs, so) =
    clean_did cht.origin.table.shape did worked last cht.sound (subst (λ y. Runs cht.origin.table.shape y did (last, Some (answer.Done worked))) (sym (some_work (clean_from cht.origin.table.shape) state is)) runs)
did_so cht mid w task.Grow level state did worked of is has new (last, runs, so) =
    let same = sym (some_work (resize_from Grow level) state is) in
    resize_did cht.origin.table.shape Grow level did worked last cht.sound (leads_so cht mid w Grow level of (subst (λ y. IsWorkOf w y mid) same has))
    (subst (λ y. Runs cht.origin.table.shape y did (last, Some (answer.Done worked))) same runs)
did_so cht mid w task.Shrink level state did worked of is has new (last, runs, so) =
    let same = sym (some_work (resize_from Shrink level) state is) in
    resize_did cht.origin.table.shape Shrink level did worked last cht.sound (leads_so cht mid w Shrink level of (subst (λ y. IsWorkOf w y mid) same has))
    (subst (λ y. Runs cht.origin.table.shape y did (last, Some (answer.Done worked))) same runs)

-- A CLEAN THAT IS DONE

-- a clean's last work is one
clean_last : (shape : Shape) (did : List What) (worked : Worked) (last : Working) → Runs shape (clean_from shape) did (last, Some (answer.Done worked)) → (c : Clean) × (last ≡ work.Clean c)
clean_last shape did worked last runs =
    let ran = cleans_law shape (whole.begun shape.min_level) runs.words runs.fitting in
    (_, ap (λ (at : Working × Option Answer). at.0) (sym runs.leads ∙ ran.2))

-- and a resize's is one of its direction
resize_last : (shape : Shape) (d : Direction) (level : ℕ) (did : List What) (worked : Worked) (last : Working) → Runs shape (resize_from d level) did (last, Some (answer.Done worked)) → (r : Resize) × (r.direction ≡ d) × (last ≡ work.Resize r)
resize_last shape d level did worked last runs =
    let ran = resizes_law shape d (resize.begun level) runs.words runs.fitting in
    (_, refl, ap (λ (at : Working × Option Answer). at.0) (sym runs.leads ∙ ran.2))

-- what is so of what the seat has seen is so of what it had seen with its window
carried : (t : Table) (old new : Seat) (Did : List What → Type 0) (Why : List Event → List Event → Type 0) (e : Ended t old new Did Why) (P : List Event → ℕ → Type 0) → P (seen new) new.number → P (seen old ++ log_of e.window) old.number
carried t old new Did Why e P = subst (λ (z : List Event × ℕ). P z.0 z.1) (λ i. ((ap log_of e.whole ∙ log-append (history old) e.window) i, e.keeps.number i))

finished_so : (cht : Cht) (mid : Seat) (w : Work) (x : Task) (level : ℕ) (state : Working) (did : List What) (worked : Worked) → IsOf cht mid → begun_work cht.origin.table.shape (left_by x level) ≡ Some state → IsWorkOf w state mid →
    (new : Seat) → IsDone cht.origin.table state did worked new → (old : Seat) → (e : Ended cht.origin.table old new (Only (what.ResizeTaken ∷ did)) (λ seen window. WasSo cht.origin.table x level seen window)) →
    FinishedSo cht.origin.table old.number x worked (seen old) (log_of e.window)
finished_so cht mid w task.Clean level state did worked of is has new (last, runs, so) old e =
    let t = cht.origin.table in
    let from = subst (λ y. Runs t.shape y did (last, Some (answer.Done worked))) (sym (some_work (clean_from t.shape) state is)) runs in
    let one = clean_last t.shape did worked last from in
    let there = carried t old new _ _ e (λ log i. HasNoLock t log i × HasCleaned t.shape.min_level log i × HasFreed t log i) (subst (λ y. HasFinished t y worked new) one.1 so) in
    (there.0, unlinks_dead t (seen old) (log_of e.window) old.number did there.1 e.did, there.2)
finished_so cht mid w task.Grow level state did worked of is has new (last, runs, so) old e =
    let t = cht.origin.table in
    let from = subst (λ y. Runs t.shape y did (last, Some (answer.Done worked))) (sym (some_work (resize_from Grow level) state is)) runs in
    let (r, direction, one) = resize_last t.shape Grow level did worked last from in
    let there = carried t old new _ _ e (λ log i. HasNoLock t log i × WorkedWithFew log r.direction worked) (subst (λ y. HasFinished t y worked new) one so) in
    (there.0, subst (λ x. WorkedWithFew (seen old ++ log_of e.window) x worked) direction there.1)
finished_so cht mid w task.Shrink level state did worked of is has new (last, runs, so) old e =
    let t = cht.origin.table in
    let from = subst (λ y. Runs t.shape y did (last, Some (answer.Done worked))) (sym (some_work (resize_from Shrink level) state is)) runs in
    let (r, direction, one) = resize_last t.shape Shrink level did worked last from in
    let there = carried t old new _ _ e (λ log i. HasNoLock t log i × WorkedWithFew log r.direction worked) (subst (λ y. HasFinished t y worked new) one so) in
    there.0

-- A WORK THAT WAS WAITED FOR

earlier_so : (t : Table) (x : Task) (level : ℕ) (seen one two : List Event) → WasSo t x level seen one → WasSo t x level seen (one ++ two)
earlier_so t task.Clean level seen one two h = earlier (λ log. counter_in t log < 2 ^ 48) seen one two h
earlier_so t task.Grow level seen one two h = (earlier (λ log. counter_in t log < 2 ^ 48) seen one two h.0, earlier (IsAtLevel t level) seen one two h.1)
earlier_so t task.Shrink level seen one two h = (earlier (λ log. counter_in t log < 2 ^ 48) seen one two h.0, earlier (IsAtLevel t level) seen one two h.1)

pub work_done : (cht : Cht) (x : Task) (old mid new : Seat) (w : Work) (worked : Worked) → IsOf cht mid → BeginsWork cht.origin.table x old mid (tried.Begun w) →
    ((state : Working) → work_of mid ≡ Some state → FinishesWork cht.origin.table state mid new worked) → Finishes cht.origin.table x old new (finished.Done worked)
work_done cht x old mid new w worked of (level, (state, is, has), bound, ended) finishes =
    let (none, (did, done, since)) = finishes state has.unfinished in
    let both = ended_both cht.origin.table old mid new (what.ResizeTaken ∷ []) did (λ seen window. WasSo cht.origin.table x level seen window) Always (λ seen window. WasSo cht.origin.table x level seen window) ended since
    (λ seen' at so any. earlier_so cht.origin.table x level (seen old) (log_of ended.window) (log_of since.window) so) in (
      none,
      (
        level,
        bound,
        (
          did,
          did_so cht mid w x level state did worked of is has new done,
          because (λ seen window. WasSo cht.origin.table x level seen window × FinishedSo cht.origin.table old.number x worked seen window) both (both.why, finished_so cht mid w x level state did worked of is has new done old both),
        ),
      ),
    )
