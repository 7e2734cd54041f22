use Rattle.std.proofs.Common.{◌≡◌, List, ℕ, ℤ, set, sym, ap, subst, ◌∙◌, arith}
use Rattle.numbers.specs.Abs.{back}
use Rattle.numbers.specs.Machine.{i64_of}
use Rattle.model.specs.DayFile.{group, series_group}
use Rattle.model.specs.Locality.{record_at, group_of}
use Rattle.model.specs.Steps.Margin.{margin}
use Rattle.model.proofs.Fewest.{Few}
use Rattle.model.proofs.Nets.{key_of}
use Rattle.positions.specs.Books.{book_number}
use Rattle.day_steps.specs.Kept.{days, kept_net_limit, kept_dvp_limit}
use Rattle.day_steps.specs.Step.{with_net, with_dvp, group_below}
use Rattle.kept_account.specs.declared.account.Account.{Account}
use Rattle.kept_account.specs.Accounts.{nets_of, dvps_of, margins_in, with_margin, nets_stored, dvps_stored, position_moved, moved_few, moved_room, moved_margin}
use Rattle.kept_account.specs.Margins.{Room}
use Rattle.kept_account.proofs.account.Account.store.Goals as goal
use Rattle.kept_account.proofs.account.Account.store.Goals.{After-group}

module _ (c : After-group) where
  abbrev d : List ℕ
  d = c.args.day.now.words.now

  abbrev n : ℕ → ℤ
  n = nets_of c.args.self.now

  abbrev v : ℕ → ℤ
  v = dvps_of c.args.self.now

  abbrev w : List ℕ
  w = record_at c.args.trade.now.batch.now c.args.trade.now.index

  net_is : i64_of c.args.moved.net ≡ with_net n w (key_of w)
  net_is = back (ap (λ m. m.net) c.requires.moved_value) (omega (arith, kept_net_limit d (with_net n w) (with_dvp v w) c.requires.kept (key_of w)))

  dvp_is : i64_of c.args.moved.dvp ≡ with_dvp v w (key_of w)
  dvp_is = back (ap (λ m. m.dvp) c.requires.moved_value) (omega (arith, kept_dvp_limit d (with_net n w) (with_dvp v w) c.requires.kept (key_of w)))

  -- the position stored
  stored : record {
    nets = set c.args.self.now.nets c.args.moved.key (i64_of c.args.moved.net);
    dvps = set c.args.self.now.dvps c.args.moved.key (i64_of c.args.moved.dvp);
    held = c.args.moved.held;
    ordinary = c.args.self.now.ordinary;
    fail = c.args.self.now.fail;
  } ≡ position_moved d n v w c.requires.whole.kept c.requires.kept
  stored =
      let a = c.requires.whole.is in
      let m = c.requires.moved_value in
      λ i.
      record {
        nets = ((λ j. set ((a j).nets) ((m j).key) (net_is j)) ∙ nets_stored d n v w c.requires.whole.kept c.requires.kept) i;
        dvps = ((λ j. set ((a j).dvps) ((m j).key) (dvp_is j)) ∙ dvps_stored d n v w c.requires.whole.kept c.requires.kept) i;
        held = (m i).held;
        ordinary = (a i).ordinary;
        fail = (a i).fail;
      }

  group_is : c.group.result ≡ group_of d w
  unfolding series_group
  group_is = c.group.ensures ∙ (λ i. group (c.class-class.ensures.0 i) ((c.class-class.ensures.1 ∙ c.class_of.ensures.0) i)) ∙ ap (λ s. series_group d s) c.place.ensures

pub compute_line-requires-clause-few : goal.compute_line-requires-clause-few
compute_line-requires-clause-few c =
    let z = (goal.at.compute_line-requires-clause-few c).After-group in
    subst (λ (a : Account). Few (d z) (nets_of a) (dvps_of a)) (sym (stored z)) (moved_few (d z) (n z) (v z) (w z) c.requires.whole.kept c.requires.kept)

pub compute_line-requires-clause-group_bound : goal.compute_line-requires-clause-group_bound
compute_line-requires-clause-group_bound c =
    let z = (goal.at.compute_line-requires-clause-group_bound c).After-group in
    omega (arith, group_is z, group_below (d z) (days (d z) (n z) (v z) c.requires.whole.kept) (w z) c.requires.place_bound)

pub compute_line-requires-clause-room : goal.compute_line-requires-clause-room
compute_line-requires-clause-room c =
    let z = (goal.at.compute_line-requires-clause-room c).After-group in
    let b = c.book_of.result in
    subst (λ (a : Account). Room (margins_in a b) c.group.result (margin (d z) (nets_of a) (dvps_of a) (book_number b) c.group.result)) (sym (stored z))
    (rw (group_is z) (moved_room (d z) (n z) (v z) (w z) c.requires.whole.kept c.requires.kept c.requires.place_bound b c.book_of.ensures))

pub returns : goal.returns
returns c =
    let z = (goal.at.returns c).After-group in
    let b = c.book_of.result in
    c.compute_line.ensures
    ∙ (λ i. with_margin (d z) (stored z i) b (group_is z i))
    ∙ moved_margin (d z) (n z) (v z) (w z) c.requires.whole.kept c.requires.kept c.requires.place_bound b c.book_of.ensures
