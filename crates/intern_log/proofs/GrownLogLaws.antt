-- The grown log is lawful, and says which row is being replaced.
use Rattle.std.proofs.Common.{◌≡◌, ℕ, Bool, true, false, [], take, drop, inl, refl, sym, ap, ◌∙◌}
use native.Mathlib.Omega.{arith}
use Rattle.intern_log.specs.Now.{Resizing}
use Rattle.intern_log.specs.Lawful.{IsLawful}
use Rattle.intern_log.specs.Orderly.{IsBeingReplaced}
use Rattle.intern_log.specs.GrownLog.{grown_table, grown_log, not_yet_replacing, replacing_row_3}
use Rattle.intern_log.proofs.LawfulLaws.{IsLawful-prefix}
use Rattle.intern_log.proofs.WorkedLogLaws.{all_fresh}
use Rattle.intern_log.proofs.Replacing.{one_resizing, replaced_is}

pub grown_is_lawful : IsLawful grown_table grown_log
grown_is_lawful = record {
  allowed = ((refl, omega arith), (refl, (refl, (refl, (refl, (((replacing_row_3, refl, refl), inl refl, omega arith, omega arith), (((replacing_row_3, refl, refl), (λ s place is. absurd (cc))), tt)))))));
  fresh = all_fresh grown_log [] refl tt;
}

pub none_is_being_replaced : (row : ℕ) → ¬ (IsBeingReplaced 3 (take 4 grown_log) row)
none_is_being_replaced row replaced =
    let found = (replaced_is grown_table (take 4 grown_log) row (IsLawful-prefix grown_table (take 4 grown_log) (drop 4 grown_log) grown_is_lawful)).0 replaced in
    let not = ap (λ (r : Resizing). r.replacing) (one_resizing not_yet_replacing found.0 found.1) in
    absurd (not_so found.0.replacing not found.3)
  where
    not_so : (b : Bool) → false ≡ b → b ≡ true → ⊥
    not_so b is other = cc

lawful_at_place_5 : IsLawful grown_table (take 5 grown_log)
lawful_at_place_5 = IsLawful-prefix grown_table (take 5 grown_log) (drop 5 grown_log) grown_is_lawful

pub row_3_is_replaced : IsBeingReplaced 3 (take 5 grown_log) 3
row_3_is_replaced = (replaced_is grown_table (take 5 grown_log) 3 lawful_at_place_5).1 (replacing_row_3, refl, refl, refl)

pub row_3_alone_is_replaced : (row : ℕ) → IsBeingReplaced 3 (take 5 grown_log) row → row ≡ 3
row_3_alone_is_replaced row replaced =
    let found = (replaced_is grown_table (take 5 grown_log) row lawful_at_place_5).0 replaced in
    sym found.2 ∙ ap (λ (r : Resizing). r.level) (sym (one_resizing replacing_row_3 found.0 found.1))
