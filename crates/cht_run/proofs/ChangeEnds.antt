-- A call by handle has come to its end.
use Rattle.std.proofs.Common.{◌≡◌, ℕ, ◌+◌, Bool, true, false, List, [], ◌∷◌, ◌++◌, refl, sym, ap, subst, ◌∙◌}
use Rattle.std.proofs.lemmas.List.{append-nil, append_assoc}
use Rattle.intern_log.specs.declared.event.Event.{Event}
use Rattle.intern_log.specs.declared.event.Handle.{Handle}
use Rattle.intern_log.specs.declared.event.What.{What}
use Rattle.intern_log.specs.declared.event.What.TheVariants as what
use Rattle.intern_log.specs.Log.{creates, map_of}
use Rattle.intern_log.specs.TextMap.{no_texts, IsLive}
use Rattle.intern_log.proofs.Gone.{gone-next}
use Rattle.intern_log.proofs.Handles.{handle_eq-Decides}
use Rattle.intern_log.proofs.Logs.{map_after-append}
use Rattle.atomic_step.specs.declared.answer.Answer.{Answer}
use Rattle.call_machine.specs.declared.call.Call.TheVariants as call
use Rattle.call_machine.specs.declared.stage.Along.{Along}
use Rattle.call_machine.specs.declared.stage.CallStage.TheVariants as stage
use Rattle.call_machine.specs.declared.stage.Request.{Request}
use Rattle.cht_core.specs.declared.table.Table.{Table}
use Rattle.cht_core.specs.CauseCalls.{WasMade, IsGone}
use Rattle.cht_core.specs.Past.{Past, by, past_of, kind_of, MayAdd}
use Rattle.cht_core.specs.Windows.{IsTold, IsToldFrom}
use Rattle.cht_core.proofs.CauseCounts.{told_front}
use Rattle.cht_core.proofs.TidyKept.{past_of-one_more}
use Rattle.cht_run.specs.declared.change.TryDrop.{TryDrop}
use Rattle.cht_run.specs.declared.change.TryDrop.TheVariants as drops
use Rattle.cht_run.specs.declared.change.TryPermanent.{TryPermanent}
use Rattle.cht_run.specs.declared.change.TryPermanent.TheVariants as keeps
use Rattle.cht_run.specs.declared.change.TryKill.{TryKill}
use Rattle.cht_run.specs.declared.change.TryKill.TheVariants as kills
use Rattle.cht_run.specs.declared.seat.Seat.{Seat}
use Rattle.cht_run.specs.declared.table.Cht.{Cht}
use Rattle.cht_run.specs.Calls.{At}
use Rattle.cht_run.specs.Changes.{EndsWith, Did, DidSome, by_drop, by_permanent, by_kill, drop_answer, permanent_answer, kill_answer, dropped, made_permanent, killed, IsLowered, WhyDrops, WhyPermanent, WhyKills}
use Rattle.cht_run.specs.Ended.{Ended, Only}
use Rattle.cht_run.specs.History.{log_of}
use Rattle.cht_run.specs.Seats.{sight, seen}
use Rattle.cht_run.proofs.Ended.{log_is, ends, ended}
use Rattle.cht_run.proofs.Handles.{made_longer}

-- A HANDLE THAT IS GONE STAYS GONE

-- no event creates a handle that was created
creates_other : (t : Table) (p : Past) (seat : ℕ) (e : What) (h : Handle) → MayAdd (kind_of t) p seat e → p.made h ≡ true → creates e h ≡ false
creates_other t p seat (what.Create text k) h may made = go (creates (what.Create text k) h) refl
  where
    go : (b : Bool) → creates (what.Create text k) h ≡ b → b ≡ false
    go false is = refl
    go true is = let same : k ≡ h = (handle_eq-Decides k h).0 is in let never : true ≡ false = sym made ∙ ap p.made (sym same) ∙ may.1 in absurd (cc)
creates_other t p seat (what.Take text k) h may made = refl
creates_other t p seat (what.Found text k) h may made = refl
creates_other t p seat (what.Drop k) h may made = refl
creates_other t p seat (what.Perm k) h may made = refl
creates_other t p seat (what.Kill k) h may made = refl
creates_other t p seat (what.Claim s) h may made = refl
creates_other t p seat (what.Free s) h may made = refl
creates_other t p seat (what.Open c) h may made = refl
creates_other t p seat what.Close h may made = refl
creates_other t p seat what.Grace h may made = refl
creates_other t p seat (what.Lock r b) h may made = refl
creates_other t p seat (what.Unlock r b) h may made = refl
creates_other t p seat (what.Unlink s) h may made = refl
creates_other t p seat what.ResizeTaken h may made = refl
creates_other t p seat what.ResizeGiven h may made = refl
creates_other t p seat (what.Level l) h may made = refl
creates_other t p seat (what.Rehash n) h may made = refl

gone_from : (t : Table) (front rest : List Event) (h : Handle) → IsToldFrom (kind_of t) (past_of t.shape.min_level front) rest → WasMade t front h → IsGone h front → IsGone h (front ++ rest)
gone_from t front [] h told made gone = subst (IsGone h) (sym (append-nil front)) gone
gone_from t front (e ∷ rest) h told made gone =
    let other = creates_other t (past_of t.shape.min_level front) e.seat e.what h told.0 made in
    let after : IsGone h (front ++ e ∷ []) = subst (λ m. ¬ (IsLive m h)) (sym (map_after-append no_texts front (e ∷ []))) (gone-next (map_of front) e.what h other gone) in
    subst (IsGone h) (append_assoc front (e ∷ []) rest)
    (gone_from t (front ++ e ∷ []) rest h (subst (λ (p : Past). IsToldFrom (kind_of t) p rest) (sym (past_of-one_more t.shape.min_level front e)) told.1) (made_longer t front (e ∷ []) h made) after)

pub told_rest : (t : Table) (front rest more : List Event) → IsToldFrom (kind_of t) (past_of t.shape.min_level front) (rest ++ more) → IsToldFrom (kind_of t) (past_of t.shape.min_level (front ++ rest)) more
told_rest t front [] more told = subst (λ l. IsToldFrom (kind_of t) (past_of t.shape.min_level l) more) (sym (append-nil front)) told
told_rest t front (e ∷ rest) more told =
    subst (λ l. IsToldFrom (kind_of t) (past_of t.shape.min_level l) more) (append_assoc front (e ∷ []) rest)
    (told_rest t (front ++ e ∷ []) rest more (subst (λ (p : Past). IsToldFrom (kind_of t) p (rest ++ more)) (sym (past_of-one_more t.shape.min_level front e)) told.1))

-- of a handle that was created and is gone no entry comes again
pub gone_stays : (t : Table) (seen later : List Event) (h : Handle) → IsTold t (seen ++ later) → WasMade t seen h → IsGone h seen → IsGone h (seen ++ later)
gone_stays t seen later h told made gone = gone_from t seen later h (told_rest t [] seen later told) made gone

-- so an event on a live entry of it shows that it was not gone
not_gone : (t : Table) (i : ℕ) (e : What) (h : Handle) (count : ℕ) (seen log : List Event) → IsTold t log → WasMade t seen h → EndsWith i e h count seen log → ¬ (IsGone h seen)
not_gone t i e h count seen log told made last gone =
    let before = told_front (kind_of t) (past_of t.shape.min_level []) (seen ++ last.later) (by i e ∷ []) (subst (IsTold t) last.ends told) in
    gone_stays t seen last.later h before made gone (last.text, (record { handle = h; count = count }, last.had, refl))

-- THE ANSWERS

module _ (cht : Cht) (old new : Seat) (r : Request) (w : Along) (h : Handle) (same : r.handle ≡ h) where
  pub drop_ended : (result : TryDrop) → At cht (sight old) (call.Drop r.handle) r new.raw w (stage.Answered (drop_answer result)) → Did (sight old) r.handle (sight new) (by_drop r.handle result) → IsLowered result →
      Ended cht.origin.table old new (Only (dropped h result)) (WhyDrops old.number h result)
  drop_ended result at did lowered = subst (λ k. Ended cht.origin.table old new (Only (dropped k result)) (WhyDrops old.number k result)) same (by_result result at did lowered)
    where
      its_last : (a : Answer) (count : ℕ) → (at : At cht (sight old) (call.Drop r.handle) r new.raw w (stage.Answered a)) → EndsWith (sight old).number (what.Drop r.handle) r.handle count (seen old) (seen new) →
          EndsWith old.number (what.Drop r.handle) r.handle count (seen old) (seen old ++ log_of at.stands.window)
      its_last a count at last = subst (λ l. EndsWith old.number (what.Drop r.handle) r.handle count (seen old) l) (log_is cht old new (call.Drop r.handle) r w a at)
          (subst (λ i. EndsWith i (what.Drop r.handle) r.handle count (seen old) (seen new)) (sym old.named) last)

      by_result : (x : TryDrop) → At cht (sight old) (call.Drop r.handle) r new.raw w (stage.Answered (drop_answer x)) → Did (sight old) r.handle (sight new) (by_drop r.handle x) → IsLowered x →
          Ended cht.origin.table old new (Only (dropped r.handle x)) (WhyDrops old.number r.handle x)
      by_result (drops.Dropped left) at did lowered = ended cht old new (call.Drop r.handle) r w _ at _ (WhyDrops old.number r.handle (drops.Dropped left)) did.0 (its_last _ (left + 1) at did.1, lowered)
      by_result drops.Permanent at did lowered = ended cht old new (call.Drop r.handle) r w _ at _ (WhyDrops old.number r.handle drops.Permanent) did.0 (its_last _ 65535 at did.1)
      by_result drops.Again at did lowered = ended cht old new (call.Drop r.handle) r w _ at _ (WhyDrops old.number r.handle drops.Again) did (ends cht old new (call.Drop r.handle) r w _ at)

  pub permanent_ended : (result : TryPermanent) → At cht (sight old) (call.Permanent r.handle) r new.raw w (stage.Answered (permanent_answer result)) → DidSome (sight old) r.handle (sight new) (by_permanent r.handle result) →
      Ended cht.origin.table old new (Only (made_permanent h result)) (WhyPermanent old.number h result)
  permanent_ended result at did = subst (λ k. Ended cht.origin.table old new (Only (made_permanent k result)) (WhyPermanent old.number k result)) same (by_result result at did)
    where
      by_result : (x : TryPermanent) → At cht (sight old) (call.Permanent r.handle) r new.raw w (stage.Answered (permanent_answer x)) → DidSome (sight old) r.handle (sight new) (by_permanent r.handle x) →
          Ended cht.origin.table old new (Only (made_permanent r.handle x)) (WhyPermanent old.number r.handle x)
      by_result keeps.Done at did = ended cht old new (call.Permanent r.handle) r w _ at _ (WhyPermanent old.number r.handle keeps.Done) did.0 (
        did.1.0,
        subst (λ l. EndsWith old.number (what.Perm r.handle) r.handle did.1.0 (seen old) l) (log_is cht old new (call.Permanent r.handle) r w _ at)
            (subst (λ i. EndsWith i (what.Perm r.handle) r.handle did.1.0 (seen old) (seen new)) (sym old.named) did.1.1),
      )
      by_result keeps.Again at did = ended cht old new (call.Permanent r.handle) r w _ at _ (WhyPermanent old.number r.handle keeps.Again) did (ends cht old new (call.Permanent r.handle) r w _ at)

  pub kill_ended : (result : TryKill) → WasMade cht.origin.table (seen old) h → At cht (sight old) (call.Kill r.handle) r new.raw w (stage.Answered (kill_answer result)) → DidSome (sight old) r.handle (sight new) (by_kill r.handle result) →
      Ended cht.origin.table old new (Only (killed h result)) (WhyKills old.number h result)
  kill_ended result made at did = subst (λ k. Ended cht.origin.table old new (Only (killed k result)) (WhyKills old.number k result)) same (by_result result at did)
    where
      by_result : (x : TryKill) → At cht (sight old) (call.Kill r.handle) r new.raw w (stage.Answered (kill_answer x)) → DidSome (sight old) r.handle (sight new) (by_kill r.handle x) →
          Ended cht.origin.table old new (Only (killed r.handle x)) (WhyKills old.number r.handle x)
      by_result kills.Killed at did =
          let last = subst (λ i. EndsWith i (what.Kill r.handle) r.handle did.1.0 (seen old) (seen new)) (sym old.named) did.1.1 in
          ended cht old new (call.Kill r.handle) r w _ at _ (WhyKills old.number r.handle kills.Killed) did.0 (
            (did.1.0, subst (λ l. EndsWith old.number (what.Kill r.handle) r.handle did.1.0 (seen old) l) (log_is cht old new (call.Kill r.handle) r w _ at) last),
            not_gone (sight old).origin.table old.number (what.Kill r.handle) r.handle did.1.0 (seen old) (seen new) at.stands.sees.told (subst (WasMade (sight old).origin.table (seen old)) (sym same) made) last,
          )
      by_result kills.Stale at did = ended cht old new (call.Kill r.handle) r w _ at _ (WhyKills old.number r.handle kills.Stale) did (ends cht old new (call.Kill r.handle) r w _ at)
