-- Tries of a call follow one another, and make one call.
use Rattle.std.proofs.Common.{◌≡◌, ℕ, ◌+◌, ◌≤◌, List, [], ◌∷◌, ◌++◌, map, filter, refl, sym, ap, subst, ◌∙◌}
use Rattle.std.proofs.lemmas.List.{append-nil, append_assoc}
use Rattle.std.proofs.lemmas.List.Elements.{filter-append}
use Rattle.intern_log.specs.declared.event.Event.{Event}
use Rattle.intern_log.specs.declared.event.Handle.{Handle}
use Rattle.intern_log.specs.declared.event.What.{What}
use Rattle.intern_log.specs.declared.event.What.TheVariants as what
use Rattle.intern_log.specs.Log.{map_of}
use Rattle.intern_log.specs.Own.{is_visible, mine, total}
use Rattle.intern_log.proofs.Logs.{mine-append}
use Rattle.cht_core.specs.Begins.{IsHeld}
use Rattle.cht_core.specs.CauseCalls.{IsAbsent, HasCount, AreOfCall}
use Rattle.cht_core.specs.declared.table.Table.{Table}
use Rattle.cht_run.specs.declared.change.TryDrop.TheVariants as drops
use Rattle.cht_run.specs.declared.change.TryPermanent.TheVariants as stays
use Rattle.cht_run.specs.declared.lookup.TryLookup.TheVariants as try_lookup
use Rattle.cht_run.specs.declared.retry.Lookup.TheVariants as lookup
use Rattle.cht_run.specs.declared.retry.Released.TheVariants as released
use Rattle.cht_run.specs.declared.seat.Seat.{Seat}
use Rattle.cht_run.specs.Answers.{AreOfWalk, LooksUp, WhyLooksUp}
use Rattle.cht_run.specs.Changes.{EndsWith, WhyDrops, WhyPermanent}
use Rattle.cht_run.specs.Ended.{Ended, Always, KeepsWork, Only}
use Rattle.cht_run.specs.History.{log_of, told_by}
use Rattle.cht_run.specs.Retries.{AreOfTries, LooksUpWaiting, WhyLooksUpWaiting, WhyReleases, WhyStays}
use Rattle.cht_run.specs.Seats.{history, seen, numbers}
use Rattle.cht_run.proofs.Following.{follows, ended_both, no_step, later}
use Rattle.cht_run.proofs.Histories.{log-append}
use Rattle.cht_run.proofs.Holding.{seen_by}

-- what is unfinished stays so
pub works_both : (old mid new : Seat) → KeepsWork old mid → KeepsWork mid new → KeepsWork old new
works_both old mid new first second = record { work = second.work ∙ first.work; grace = second.grace ∙ first.grace }

-- A LOOK-UP

calls_append : (a b : List What) → AreOfCall a → AreOfCall b → AreOfCall (a ++ b)
calls_append [] b first second = second
calls_append (e ∷ a) b first second = (first.0, calls_append a b first.1 second)

tries_append : (seen_a seen_b a b : List What) → AreOfTries seen_a a → AreOfTries seen_b b → AreOfTries (seen_a ++ seen_b) (a ++ b)
tries_append seen_a seen_b a b first second = record {
  shown = filter-append is_visible a b ∙ (λ i. first.shown i ++ second.shown i);
  calls = calls_append a b first.calls second.calls;
}

of_walk : (visible events : List What) → AreOfWalk visible events → AreOfTries visible events
of_walk visible events walk = record { shown = walk.shown; calls = walk.calls }

-- before the first try
pub not_tried : (t : Table) (seat : Seat) → Ended t seat seat (AreOfTries []) Always
not_tried t seat = no_step t seat (AreOfTries []) Always (record { shown = refl; calls = tt }) tt

module _ (t : Table) (text : List ℕ) (old mid new : Seat) (before : Ended t old mid (AreOfTries []) Always) where
  pub hits : (h : Handle) → Ended t mid new (LooksUp text (try_lookup.Hit h)) (WhyLooksUp mid.number text (try_lookup.Hit h)) → Ended t old new (LooksUpWaiting text (lookup.Hit h)) (WhyLooksUpWaiting text (lookup.Hit h))
  hits h looks = follows t old mid new (AreOfTries []) (LooksUp text (try_lookup.Hit h)) Always (WhyLooksUp mid.number text (try_lookup.Hit h)) before looks (LooksUpWaiting text (lookup.Hit h)) (WhyLooksUpWaiting text (lookup.Hit h))
      (λ a b tried did. tries_append [] (what.Take text h ∷ []) a b tried (of_walk (what.Take text h ∷ []) b did)) (λ seen' is any why. tt)

  pub misses : Ended t mid new (LooksUp text try_lookup.Miss) (WhyLooksUp mid.number text try_lookup.Miss) → Ended t old new (LooksUpWaiting text lookup.Miss) (WhyLooksUpWaiting text lookup.Miss)
  misses looks = follows t old mid new (AreOfTries []) (LooksUp text try_lookup.Miss) Always (WhyLooksUp mid.number text try_lookup.Miss) before looks (LooksUpWaiting text lookup.Miss) (WhyLooksUpWaiting text lookup.Miss)
      (λ a b tried did. tries_append [] [] a b tried (of_walk [] b did)) (λ seen' is any why. later (IsAbsent text) (seen old) seen' (log_of before.window) (log_of looks.window) is why)

  pub looks_on : Ended t mid new (LooksUp text try_lookup.Again) (WhyLooksUp mid.number text try_lookup.Again) → Ended t old new (AreOfTries []) Always
  looks_on looks = follows t old mid new (AreOfTries []) (LooksUp text try_lookup.Again) Always (WhyLooksUp mid.number text try_lookup.Again) before looks (AreOfTries []) Always
      (λ a b tried did. tries_append [] [] a b tried (of_walk [] b did)) (λ seen' is any why. tt)

-- CALLS BY HANDLE

-- a handle that the seat held it holds still
pub holds_still : (t : Table) (old new : Seat) (h : Handle) → Ended t old new (Only []) Always → IsHeld (seen old) (numbers old) h → IsHeld (seen new) (numbers new) h
holds_still t old new h tried held =
    let more : mine (log_of tried.window) (numbers old) ≡ [] =
    seen_by (numbers old) tried.window ∙ ap (λ l. filter (λ (e : Event). is_visible e.what) (log_of l)) (tried.own ∙ ap (map (told_by old.number)) tried.did) in
    let same : mine (seen new) (numbers new) ≡ mine (seen old) (numbers old) =
    ap (mine (seen new)) tried.keeps.numbers ∙ ap (λ l. mine (log_of l) (numbers old)) tried.whole ∙ ap (λ l. mine l (numbers old)) (log-append (history old) tried.window) ∙ mine-append (seen old) (log_of tried.window) (numbers old)
    ∙ ap (λ l. mine (seen old) (numbers old) ++ l) more ∙ append-nil (mine (seen old) (numbers old)) in
    subst (λ l. 1 ≤ total l h) (sym same) held

-- a try in vain goes before the next
pub tries_on : (t : Table) (old mid new : Seat) (Why : List Event → List Event → Type 0) → Ended t old mid (Only []) Always → Ended t mid new (Only []) Why → Ended t old new (Only []) Always
tries_on t old mid new Why tried ended = ended_both t old mid new [] [] Always Why Always tried ended (λ seen' is any why. tt)

-- an event at the end of a later window is at the end of both
ends_later : (i j : ℕ) (e : What) (h : Handle) (count : ℕ) (seen seen' first second : List Event) → i ≡ j → seen' ≡ seen ++ first → EndsWith i e h count seen' (seen' ++ second) → EndsWith j e h count seen (seen ++ (first ++ second))
ends_later i j e h count seen seen' first second same is last =
    let lists : seen' ++ last.later ≡ seen ++ (first ++ last.later) = ap (λ l. l ++ last.later) is ∙ append_assoc seen first last.later in
    record {
      later = first ++ last.later;
      ends = sym (append_assoc seen first second) ∙ ap (λ l. l ++ second) (sym is) ∙ last.ends ∙ (λ k. lists k ++ record { seat = same k; what = e } ∷ []);
      text = last.text;
      had = subst (λ (l : List Event). HasCount (map_of l) last.text h count) lists last.had;
    }

module _ (t : Table) (old mid new : Seat) (tried : Ended t old mid (Only []) Always) (h : Handle) where
  pub drops_left : (left : ℕ) → Ended t mid new (Only (what.Drop h ∷ [])) (WhyDrops mid.number h (drops.Dropped left)) → Ended t old new (Only (what.Drop h ∷ [])) (WhyReleases old.number h (released.Dropped left))
  drops_left left ended = ended_both t old mid new [] (what.Drop h ∷ []) Always (WhyDrops mid.number h (drops.Dropped left)) (WhyReleases old.number h (released.Dropped left)) tried ended
      (λ seen' is any why. (ends_later mid.number old.number (what.Drop h) h (left + 1) (seen old) seen' (log_of tried.window) (log_of ended.window) tried.keeps.number is why.0, why.1))

  pub drops_none : Ended t mid new (Only (what.Drop h ∷ [])) (WhyDrops mid.number h drops.Permanent) → Ended t old new (Only (what.Drop h ∷ [])) (WhyReleases old.number h released.Permanent)
  drops_none ended = ended_both t old mid new [] (what.Drop h ∷ []) Always (WhyDrops mid.number h drops.Permanent) (WhyReleases old.number h released.Permanent) tried ended
      (λ seen' is any why. ends_later mid.number old.number (what.Drop h) h 65535 (seen old) seen' (log_of tried.window) (log_of ended.window) tried.keeps.number is why)

  pub stays_so : Ended t mid new (Only (what.Perm h ∷ [])) (WhyPermanent mid.number h stays.Done) → Ended t old new (Only (what.Perm h ∷ [])) (WhyStays old.number h)
  stays_so ended = ended_both t old mid new [] (what.Perm h ∷ []) Always (WhyPermanent mid.number h stays.Done) (WhyStays old.number h) tried ended
      (λ seen' is any why. (why.0, ends_later mid.number old.number (what.Perm h) h why.0 (seen old) seen' (log_of tried.window) (log_of ended.window) tried.keeps.number is why.1))
