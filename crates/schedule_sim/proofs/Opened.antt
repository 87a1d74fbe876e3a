-- The state before the first line of a script.
use Rattle.std.proofs.Common.{◌≡◌, ◌-◌, ◌+◌, ◌<◌, ◌≤◌, ℕ, zero, suc, arith, [], length, refl, sym, ap, subst, ◌∙◌}
use Rattle.table_shape.specs.Shape.{IsSound, words_of}
use Rattle.cht_core.specs.declared.table.Table.{Table}
use Rattle.cht_core.specs.Runs.{LeadsTo}
use Rattle.cht_core.specs.State.{Core, IsFirstCounter, opening_of}
use Rattle.cht_core.proofs.StateOpens.{opening_core}
use Rattle.cht_core.proofs.StateSteps.{lawful_core}
use Rattle.cht_core.proofs.StateWords.{opening_draws}
use Rattle.schedule_sim.specs.declared.script.Script.{Script}
use Rattle.schedule_sim.specs.Turns.{AreDrawn, Opens, Stands, a_draw, draws, table_of}
use Rattle.schedule_sim.proofs.Draws.{HasDrawn, drawn_is, one_drawn}
use Rattle.schedule_sim.proofs.Moves.{leads_join, leads_split}

-- one more number is drawn
pub draws_on : (c d e : Core) (n m : ℕ) → m ≡ suc n → LeadsTo c (draws n) d → LeadsTo d a_draw e → LeadsTo c (draws m) e
draws_on c d e n m is before last = subst (λ k. LeadsTo c (draws k) e) (sym is) (leads_join c d e (draws n) a_draw before last)

module _ (t : Table) (sound : IsSound t.shape) (counter : IsFirstCounter t.first_counter) where
  drawn_so_far : (n : ℕ) (c : Core) → n < t.shape.seats → LeadsTo (opening_of t) (draws n) c → (c.table ≡ t) × HasDrawn (n + 1) c
  drawn_so_far zero c few leads =
      subst (λ (x : Core). (x.table ≡ t) × HasDrawn 1 x) leads (refl, record { core = opening_core t sound counter; idle = refl; word = opening_draws t; log = refl })
  drawn_so_far (suc n) c few leads =
      let (mid, before, last) = leads_split (opening_of t) c (draws n) a_draw leads in
      let so_far = drawn_so_far n mid (omega (arith, few)) before in
      let less : n + 1 < mid.table.shape.seats = subst (λ (x : Table). n + 1 < x.shape.seats) (sym so_far.0) (omega (arith, few)) in
      let more = one_drawn mid (n + 1) so_far.1 (subst (λ (x : Table). IsSound x.shape) (sym so_far.0) sound) less c last in
      let count : n + 1 + 1 ≡ suc n + 1 = omega arith in
      (more.0 ∙ so_far.0, subst (λ m. HasDrawn m c) count more.1)

  -- and there is one such state
  one_way : (n : ℕ) (c d : Core) → n < t.shape.seats → LeadsTo (opening_of t) (draws n) c → LeadsTo (opening_of t) (draws n) d → c ≡ d
  one_way zero c d few leads also = sym leads ∙ also
  one_way (suc n) c d few leads also =
      let (mid, before, last) = leads_split (opening_of t) c (draws n) a_draw leads in
      let (there, first, rest) = leads_split (opening_of t) d (draws n) a_draw also in
      let same : there ≡ mid = one_way n there mid (omega (arith, few)) first before in
      let so_far = drawn_so_far n mid (omega (arith, few)) before in
      let less : n + 1 < mid.table.shape.seats = subst (λ (x : Table). n + 1 < x.shape.seats) (sym so_far.0) (omega (arith, few)) in
      let good : IsSound mid.table.shape = subst (λ (x : Table). IsSound x.shape) (sym so_far.0) sound in
      drawn_is mid (n + 1) so_far.1 good less c last ∙ sym (drawn_is mid (n + 1) so_far.1 good less d (subst (λ x. LeadsTo x a_draw d) same rest))

-- all numbers are drawn
pub opens_after : (s : Script) (c : Core) (n : ℕ) → s.shape.seats ≤ n → (1 ≤ s.shape.seats → n ≤ s.shape.seats) → LeadsTo (opening_of (table_of s)) (draws (n - 1)) c → Opens s c
opens_after s c n all most leads =
    let last = most s.fit.sound.seats.0 in
    let is : n ≡ s.shape.seats = omega (arith, all, last) in
    subst (λ m. LeadsTo (opening_of (table_of s)) (draws (m - 1)) c) is leads

opened : (s : Script) (c : Core) → Opens s c → (c.table ≡ table_of s) × HasDrawn s.shape.seats c
opened s c opens =
    let some = s.fit.sound.seats.0 in
    let so_far = drawn_so_far (table_of s) s.fit.sound s.begins (s.shape.seats - 1) c (omega (arith, some)) opens in
    let all : s.shape.seats - 1 + 1 ≡ s.shape.seats = omega (arith, some) in
    (so_far.0, subst (λ m. HasDrawn m c) all so_far.1)

pub opens_drawn : (s : Script) (c : Core) → Opens s c → AreDrawn s.shape.seats c
opens_drawn s c opens =
    let (table, has) = opened s c opens in
    λ k below. (has.core.drawn k (subst (λ (t : Table). k < t.shape.seats) (sym table) below)).1 (let word = has.word in omega (arith, word, below))

pub opens_calm : (s : Script) (c : Core) → Opens s c → c.log ≡ []
opens_calm s c opens = (opened s c opens).1.log

pub opens_sized : (s : Script) (c : Core) → Opens s c → length c.words ≡ words_of c.table.shape
opens_sized s c opens = (opened s c opens).1.core.sized

pub opens_one : (s : Script) (c d : Core) → Opens s c → Opens s d → c ≡ d
opens_one s c d opens also = let some = s.fit.sound.seats.0 in one_way (table_of s) s.fit.sound s.begins (s.shape.seats - 1) c d (omega (arith, some)) opens also

pub opens_stands : (s : Script) (c : Core) → Opens s c → Stands s c
opens_stands s c opens =
    let (table, has) = opened s c opens in
    record {
      table = table;
      sized = has.core.sized ∙ ap (λ (t : Table). words_of t.shape) table;
      seats = has.core.seats ∙ ap (λ (t : Table). t.shape.seats) table;
      lawful = lawful_core c has.core;
    }
