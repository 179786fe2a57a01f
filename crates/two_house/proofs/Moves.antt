-- Each move at the bank and at the depository.
use Rattle.std.proofs.Common.{◌≡◌, ℕ, ◌+◌}
use Rattle.market.specs.declared.refusal.Refusal.TheVariants.{FreeTooSmall, MoreThanHeld, TotalTooLarge}
use Rattle.ledger.specs.Books.{Book, limit}
use Rattle.ledger.specs.Moves.{checked, to_held, to_free, more_free, less_free, hold_answer, hold_after, release_answer, release_after, pay_in_answer, pay_in_after, draw_out_answer, draw_out_after}
use Rattle.two_house.specs.Houses.{both}
use Rattle.two_house.specs.Sides.{Verdict, Alike, in_bank, in_depository}

hold_verdict : ℕ → Verdict
hold_verdict n = λ f t. checked f f.free n FreeTooSmall

pub hold_in_bank : (m d : Book) (a i n : ℕ) → i ≡ 0 → Alike (hold_answer m a i n) (hold_answer (both m d) a i n) (both (hold_after m a i n) d) (hold_after (both m d) a i n)
unfolding hold_answer hold_after hold_verdict
hold_in_bank m d a i n e = in_bank (hold_verdict n) to_held m d a i n e

pub hold_in_depository : (m d : Book) (a i n : ℕ) → (i ≡ 0 → ⊥) → Alike (hold_answer d a i n) (hold_answer (both m d) a i n) (both m (hold_after d a i n)) (hold_after (both m d) a i n)
unfolding hold_answer hold_after hold_verdict
hold_in_depository m d a i n e = in_depository (hold_verdict n) to_held m d a i n e

release_verdict : ℕ → Verdict
release_verdict n = λ f t. checked f f.held n MoreThanHeld

pub release_in_bank : (m d : Book) (a i n : ℕ) → i ≡ 0 → Alike (release_answer m a i n) (release_answer (both m d) a i n) (both (release_after m a i n) d) (release_after (both m d) a i n)
unfolding release_answer release_after release_verdict
release_in_bank m d a i n e = in_bank (release_verdict n) to_free m d a i n e

pub release_in_depository : (m d : Book) (a i n : ℕ) → (i ≡ 0 → ⊥) → Alike (release_answer d a i n) (release_answer (both m d) a i n) (both m (release_after d a i n)) (release_after (both m d) a i n)
unfolding release_answer release_after release_verdict
release_in_depository m d a i n e = in_depository (release_verdict n) to_free m d a i n e

pay_in_verdict : ℕ → Verdict
pay_in_verdict n = λ f t. checked f limit (t + n) TotalTooLarge

pub pay_in_in_bank : (m d : Book) (a i n : ℕ) → i ≡ 0 → Alike (pay_in_answer m a i n) (pay_in_answer (both m d) a i n) (both (pay_in_after m a i n) d) (pay_in_after (both m d) a i n)
unfolding pay_in_answer pay_in_after pay_in_verdict
pay_in_in_bank m d a i n e = in_bank (pay_in_verdict n) more_free m d a i n e

pub pay_in_in_depository : (m d : Book) (a i n : ℕ) → (i ≡ 0 → ⊥) → Alike (pay_in_answer d a i n) (pay_in_answer (both m d) a i n) (both m (pay_in_after d a i n)) (pay_in_after (both m d) a i n)
unfolding pay_in_answer pay_in_after pay_in_verdict
pay_in_in_depository m d a i n e = in_depository (pay_in_verdict n) more_free m d a i n e

draw_out_verdict : ℕ → Verdict
draw_out_verdict n = λ f t. checked f f.free n FreeTooSmall

pub draw_out_in_bank : (m d : Book) (a i n : ℕ) → i ≡ 0 → Alike (draw_out_answer m a i n) (draw_out_answer (both m d) a i n) (both (draw_out_after m a i n) d) (draw_out_after (both m d) a i n)
unfolding draw_out_answer draw_out_after draw_out_verdict
draw_out_in_bank m d a i n e = in_bank (draw_out_verdict n) less_free m d a i n e

pub draw_out_in_depository : (m d : Book) (a i n : ℕ) → (i ≡ 0 → ⊥) → Alike (draw_out_answer d a i n) (draw_out_answer (both m d) a i n) (both m (draw_out_after d a i n)) (draw_out_after (both m d) a i n)
unfolding draw_out_answer draw_out_after draw_out_verdict
draw_out_in_depository m d a i n e = in_depository (draw_out_verdict n) less_free m d a i n e
