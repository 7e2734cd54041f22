-- Worked examples of the clearing house's documents: 001's attachments 1 to 8, and 000's 3.4 to 3.9. Debit is positive here; the attachments of 001 print the opposite sign.
-- Each figure of an account begins with the call's number, 0: the account is accepted. What a document leaves out is assumed 0, or said beside the account.
use Rattle.std.specs.Prelude.{◌≡◌, refl, List, [], ◌∷◌, ◌++◌, map, ℕ, ◌*◌, ℤ, pos, replicate}
use Rattle.model.specs.Netting.{net, dvp}
use Rattle.model.specs.Steps.Mtm.{mtm}
use Rattle.model.specs.Steps.Premium.{premium}
use Rattle.model.specs.Steps.Additional.{additional}
use Rattle.model.specs.Accounts.{Figure, all_computed, all_published, minus, ten, no_rates, day_file, percent, class_record, series_record, batch_file, position_record, status, line_of, class_points, group_points}
use Rattle.model.specs.Figures.{share, share_held}
use Rattle.model.specs.Computing.{everything}

-- whole euros, debit and credit
abbrev euros : ℕ → ℤ
euros n = pos (10000 * n)

abbrev credit : ℕ → ℤ
credit n = minus (10000 * n)

-- prices of whole euros
abbrev priced : List ℕ → List ℕ
priced l = map (λ n. 10000 * n) l

-- a share at 40 with a margin interval of 10%, as series of class 0
abbrev share_at40 : List ℕ
share_at40 =
    series_record 0 4 0 1 (0 ∷ 400000 ∷ [])
    (360000 ∷ 368000 ∷ 376000 ∷ 384000 ∷ 392000 ∷ 408000 ∷ 416000 ∷ 424000 ∷ 432000 ∷ 440000 ∷ [])

-- 500 shares bought at 40.18 and 300 sold at 39.80; p is the share's place
abbrev shares_traded : ℕ → List ℕ
shares_traded p = position_record p 500 0 (credit 20090) ++ position_record p 0 300 (euros 11940)

-- 001, attachment 1: the shares, and two short calls 39 on 100 shares
abbrev share_calls : List ℕ
share_calls =
    day_file 1 2
    (class_record 1 0 no_rates 0 (ten 0)
    ++ (series_record 0 2 6 100 (390000 ∷ 26540 ∷ [])
    (7710 ∷ 10380 ∷ 13590 ∷ 17360 ∷ 21680 ∷ 31890 ∷ 37710 ∷ 43930 ∷ 50500 ∷ 57370 ∷ [])
    ++ share_at40))

abbrev share_calls_held : List ℕ
share_calls_held = batch_file 3 (position_record 0 0 2 (pos 0) ++ shares_traded 1)

-- 001, attachment 2: the shares, two long calls 43 and two long puts 43
abbrev share_options : List ℕ
share_options =
    day_file 1 3
    (class_record 1 0 no_rates 0 (ten 0)
    ++ (series_record 0 2 6 100 (430000 ∷ 9460 ∷ [])
    (1710 ∷ 2560 ∷ 3710 ∷ 5210 ∷ 7110 ∷ 12290 ∷ 15610 ∷ 19450 ∷ 23790 ∷ 28610 ∷ [])
    ++ (series_record 0 3 6 100 (430000 ∷ 35110 ∷ [])
    (67370 ∷ 60220 ∷ 53360 ∷ 46860 ∷ 40760 ∷ 29940 ∷ 25270 ∷ 21100 ∷ 17440 ∷ 14260 ∷ [])
    ++ share_at40)))

abbrev share_options_held : List ℕ
share_options_held = batch_file 4 (position_record 0 2 0 (pos 0) ++ (position_record 1 2 0 (pos 0) ++ shares_traded 2))

-- 001, attachments 3, 6 and 7: an index future at 44,000, 5 euro a point, as series of class 0
abbrev index_future : List ℕ
index_future =
    series_record 0 1 3 5 (0 ∷ 440000000 ∷ [])
    (priced (40700 ∷ 41360 ∷ 42020 ∷ 42680 ∷ 43340 ∷ 44660 ∷ 45320 ∷ 45980 ∷ 46640 ∷ 47300 ∷ []))

abbrev index : List ℕ
index = day_file 1 1 (class_record 2 0 no_rates 0 (ten 0) ++ index_future)

abbrev index_held : List ℕ
index_held = batch_file 1 (position_record 0 2 0 (pos 0))

-- 001, attachments 4 and 5: calls 4.10 at 0.17 and puts 4.10 at 0.25 on 1,000 shares (the put's D4 is taken as 0.466, as its gain of 0.216 says)
abbrev straddle : List ℕ
straddle =
    day_file 1 2
    (class_record 3 0 no_rates 0 (ten 0)
    ++ (series_record 0 2 3 1000 (41000 ∷ 1700 ∷ [])
    (400 ∷ 590 ∷ 790 ∷ 1030 ∷ 1330 ∷ 2060 ∷ 2500 ∷ 2990 ∷ 3520 ∷ 4090 ∷ [])
    ++ series_record 0 3 3 1000 (41000 ∷ 2500 ∷ [])
    (5000 ∷ 4660 ∷ 4060 ∷ 3510 ∷ 3000 ∷ 2110 ∷ 1770 ∷ 1460 ∷ 1190 ∷ 1000 ∷ [])))

abbrev calls_short : List ℕ
calls_short = batch_file 1 (position_record 0 0 10 (pos 0))

abbrev straddle_long : List ℕ
straddle_long = batch_file 2 (position_record 0 10 0 (pos 0) ++ position_record 1 10 0 (pos 0))

-- 001, attachment 6: two index futures long, and four of another class of the group short, offset 60%. The second is worth 2.55 euro a point: 255 a hundred points. The document rounds to whole euros.
abbrev two_indices : List ℕ
two_indices =
    day_file 2 2
    (class_record 2 0 no_rates (percent 60) (ten 0)
    ++ (class_record 2 1 no_rates (percent 60) (ten 0)
    ++ (index_future
    ++ series_record 1 1 3 255 (0 ∷ 3350000 ∷ [])
    (3132250 ∷ 3175800 ∷ 3219350 ∷ 3262900 ∷ 3306450 ∷ 3393550 ∷ 3437100 ∷ 3480650 ∷ 3524200 ∷ 3567750 ∷ []))))

abbrev two_indices_held : List ℕ
two_indices_held = batch_file 2 (position_record 0 2 0 (pos 0) ++ position_record 1 0 4 (pos 0))

-- 001, attachment 7: two index futures short, four calls long, four puts short. 2.5 euro a point: 25 ten points, with the gains in whole euros as printed. The minimum of 780 is taken as 130 a future and 65 an option.
abbrev synthetic : List ℕ
synthetic =
    day_file 1 3
    (class_record 2 0 (0 ∷ 0 ∷ 0 ∷ 650000 ∷ 1300000 ∷ 0 ∷ 0 ∷ 0 ∷ []) 0 (ten 0)
    ++ (index_future
    ++ (series_record 0 2 3 25 (44000000 ∷ 2273000 ∷ [])
    (916500 ∷ 1126600 ∷ 1366700 ∷ 1637600 ∷ 1939700 ∷ 2636800 ∷ 3030400 ∷ 3452400 ∷ 3901400 ∷ 4375700 ∷ [])
    ++ series_record 0 3 3 25 (44000000 ∷ 2236000 ∷ [])
    (4179500 ∷ 3729600 ∷ 3309700 ∷ 2920600 ∷ 2562700 ∷ 1939800 ∷ 1673400 ∷ 1435400 ∷ 1224400 ∷ 1038700 ∷ []))))

abbrev synthetic_held : List ℕ
synthetic_held =
    batch_file 3 (position_record 0 0 2 (pos 0) ++ (position_record 1 4 0 (pos 0) ++ position_record 2 0 4 (pos 0)))

-- 001, attachment 8: two assigned calls 29 on 500 shares at 30
abbrev assigned : List ℕ
assigned =
    day_file 1 1
    (class_record 4 0 (300000 ∷ replicate 7 0) 0
    (277500 ∷ 282000 ∷ 286500 ∷ 291000 ∷ 295500 ∷ 304500 ∷ 309000 ∷ 313500 ∷ 318000 ∷ 322500 ∷ [])
    ++ series_record 0 2 3 500 (290000 ∷ 0 ∷ []) (ten 0))

abbrev assigned_held : List ℕ
assigned_held = batch_file 1 (position_record 256 0 2 (pos 0))

-- 000, 3.4 and 3.6 G: options on 5,000 shares at 5.2689, open and exercised or assigned. Deposits are out of scope: the call covered by one is taken out of the short quantity.
abbrev options : List ℕ
options =
    day_file 1 4
    (class_record 5 0 (52689 ∷ replicate 7 0) 0
    (49001 ∷ 49738 ∷ 50476 ∷ 51214 ∷ 51951 ∷ 53427 ∷ 54164 ∷ 54902 ∷ 55640 ∷ 56377 ∷ [])
    ++ (series_record 0 2 3 5000 (51125 ∷ 2163 ∷ []) (ten 2163)
    ++ (series_record 0 2 3 5000 (53681 ∷ 767 ∷ []) (ten 767)
    ++ (series_record 0 3 3 5000 (51125 ∷ 383 ∷ []) (ten 383) ++ series_record 0 3 3 5000 (53681 ∷ 0 ∷ []) (ten 0)))))

abbrev options_held : List ℕ
options_held =
    batch_file 5
    (position_record 0 7 6 (pos 0)
    ++ (position_record 2 1 5 (pos 0)
    ++ (position_record 1 3 9 (pos 0) ++ (position_record 256 3 1 (pos 0) ++ position_record 259 2 4 (pos 0)))))

abbrev calls_exercised_alone : List ℕ
calls_exercised_alone = batch_file 1 (position_record 256 3 1 (pos 0))

-- 000, 3.5: three securities of a class; the second and third are taken as settled but for their DVP of 450 and −50
abbrev securities : List ℕ
securities =
    day_file 1 3
    (class_record 6 0 no_rates 0 (ten 0)
    ++ (share_at40 ++ (series_record 0 5 0 1 (0 ∷ 0 ∷ []) (ten 0) ++ series_record 0 6 0 1 (0 ∷ 0 ∷ []) (ten 0))))

abbrev securities_held : List ℕ
securities_held =
    batch_file 3 (position_record 0 200 0 (credit 8150) ++ (position_record 1 1 1 (euros 450) ++ position_record 2 1 1 (credit 50)))

-- a security short by one at 10,000, whose ten amounts are the ten prices − 10,000
abbrev amounts : ℕ → ℕ → List ℕ → List ℕ
amounts c type l = series_record c type 0 1 (0 ∷ 100000000 ∷ []) (priced l)

abbrev one_short : ℕ → List ℕ
one_short p = position_record p 0 1 (pos 0)

-- 000, 3.7: three positions of a class, offset 85%
abbrev three_positions : List ℕ
three_positions =
    day_file 1 3
    (class_record 7 0 no_rates (percent 85) (ten 0)
    ++ (amounts 0 4 (8000 ∷ 9200 ∷ 9400 ∷ 9600 ∷ 9800 ∷ 10200 ∷ 10400 ∷ 10600 ∷ 10800 ∷ 11000 ∷ [])
    ++ (amounts 0 5 (9000 ∷ 9300 ∷ 9400 ∷ 9500 ∷ 9600 ∷ 10100 ∷ 10200 ∷ 10300 ∷ 10400 ∷ 10500 ∷ [])
    ++ amounts 0 6 (15000 ∷ 14000 ∷ 13000 ∷ 12000 ∷ 11000 ∷ 9000 ∷ 8000 ∷ 7000 ∷ 6000 ∷ 5000 ∷ []))))

-- 000, 3.9: three classes of a group, their amounts as they are after the offset, so with offset 100%
abbrev three_classes : List ℕ
three_classes =
    day_file 3 3
    (class_record 8 0 no_rates (percent 100) (ten 0)
    ++ (class_record 8 1 no_rates (percent 100) (ten 0)
    ++ (class_record 8 2 no_rates (percent 100) (ten 0)
    ++ (amounts 0 4 (12000 ∷ 12500 ∷ 11800 ∷ 11100 ∷ 10400 ∷ 9405 ∷ 8810 ∷ 8215 ∷ 7620 ∷ 7025 ∷ [])
    ++ (amounts 1 4 (9000 ∷ 9200 ∷ 9400 ∷ 9600 ∷ 9800 ∷ 10200 ∷ 10400 ∷ 10600 ∷ 10800 ∷ 11000 ∷ [])
    ++ amounts 2 4 (9900 ∷ 9920 ∷ 9940 ∷ 9960 ∷ 9980 ∷ 10020 ∷ 10060 ∷ 10100 ∷ 10150 ∷ 10210 ∷ []))))))

abbrev three_held : List ℕ
three_held = batch_file 3 (one_short 0 ++ (one_short 1 ++ one_short 2))

-- ---- the list: the accounts in the order above

unfoldable pub examples : List Figure
examples =
    record {
      computed = status share_calls share_calls_held ∷ (line_of share_calls share_calls_held 1 ++ class_points share_calls share_calls_held 0);
      published =
          pos 0 ∷ pos 0 ∷ euros 150 ∷ pos 5308000 ∷ pos 4234000 ∷ pos 11042000 ∷ pos 0
          ∷ pos 4234000 ∷ pos 3168000 ∷ pos 2210000 ∷ pos 1364000 ∷ pos 628000
          ∷ minus 530000 ∷ minus 966000 ∷ minus 1322000 ∷ minus 1608000 ∷ minus 1834000 ∷ [];
    }
    ∷ record {
      computed =
          status share_options share_options_held ∷ (line_of share_options share_options_held 1 ++ class_points share_options share_options_held 0);
      published =
          pos 0 ∷ pos 0 ∷ euros 150 ∷ minus 8914000 ∷ pos 3098000 ∷ pos 0 ∷ pos 4316000
          ∷ pos 3098000 ∷ pos 2758000 ∷ euros 230 ∷ euros 170 ∷ euros 94
          ∷ minus 1132000 ∷ minus 2462000 ∷ minus 3996000 ∷ minus 5732000 ∷ credit 766 ∷ [];
    }
    ∷ record {
      computed = status index index_held ∷ (line_of index index_held 2 ++ class_points index index_held 0);
      published =
          pos 0 ∷ pos 0 ∷ pos 0 ∷ pos 0 ∷ euros 33000 ∷ euros 33000 ∷ pos 0
          ∷ euros 33000 ∷ euros 26400 ∷ euros 19800 ∷ euros 13200 ∷ euros 6600
          ∷ credit 6600 ∷ credit 13200 ∷ credit 19800 ∷ credit 26400 ∷ credit 33000 ∷ [];
    }
    ∷ record {
      computed = status straddle calls_short ∷ (line_of straddle calls_short 3 ++ class_points straddle calls_short 0);
      published =
          pos 0 ∷ pos 0 ∷ pos 0 ∷ euros 1700 ∷ euros 2390 ∷ euros 4090 ∷ pos 0
          ∷ credit 1300 ∷ credit 1110 ∷ credit 910 ∷ credit 670 ∷ credit 370
          ∷ euros 360 ∷ euros 800 ∷ euros 1290 ∷ euros 1820 ∷ euros 2390 ∷ [];
    }
    ∷ record {
      computed = status straddle straddle_long ∷ (line_of straddle straddle_long 3 ++ class_points straddle straddle_long 0);
      published =
          pos 0 ∷ pos 0 ∷ pos 0 ∷ credit 4200 ∷ euros 30 ∷ pos 0 ∷ euros 4170
          ∷ credit 1200 ∷ credit 1050 ∷ credit 650 ∷ credit 340 ∷ credit 130
          ∷ euros 30 ∷ credit 70 ∷ credit 250 ∷ credit 510 ∷ credit 890 ∷ [];
    }
    ∷ record {
      computed = status two_indices two_indices_held ∷ (line_of two_indices two_indices_held 2 ++ group_points two_indices two_indices_held 2);
      published =
          pos 0 ∷ pos 0 ∷ pos 0 ∷ pos 0 ∷ pos 196737000 ∷ pos 196737000 ∷ pos 0
          ∷ pos 196737000 ∷ pos 157389600 ∷ pos 118042200 ∷ pos 78694800 ∷ pos 39347400
          ∷ pos 4821000 ∷ pos 9642000 ∷ pos 14463000 ∷ pos 19284000 ∷ pos 24105000 ∷ [];
    }
    ∷ record {
      computed = status synthetic synthetic_held ∷ (line_of synthetic synthetic_held 2 ++ class_points synthetic synthetic_held 0);
      published = pos 0 ∷ pos 0 ∷ pos 0 ∷ credit 370 ∷ euros 780 ∷ euros 410 ∷ pos 0 ∷ replicate 10 (pos 0);
    }
    ∷ record {
      computed = status assigned assigned_held ∷ (line_of assigned assigned_held 4 ++ class_points assigned assigned_held 0);
      published =
          pos 0 ∷ pos 0 ∷ pos 0 ∷ euros 1000 ∷ euros 2250 ∷ euros 3250 ∷ pos 0
          ∷ credit 2250 ∷ credit 1800 ∷ credit 1350 ∷ credit 900 ∷ credit 450
          ∷ euros 450 ∷ euros 900 ∷ euros 1350 ∷ euros 1800 ∷ euros 2250 ∷ [];
    }
    ∷ record {
      computed = status options options_held ∷ premium options (net options_held) 0 0 ∷ [];
      published = pos 0 ∷ pos 14135000 ∷ [];
    }
    ∷ record {
      computed = status options calls_exercised_alone ∷ class_points options calls_exercised_alone 0;
      published =
          pos 0
          ∷ euros 3688 ∷ euros 2951 ∷ euros 2213 ∷ euros 1475 ∷ euros 738
          ∷ credit 738 ∷ credit 1475 ∷ credit 2213 ∷ credit 2951 ∷ credit 3688 ∷ [];
    }
    ∷ record {
      computed = status securities securities_held ∷ mtm securities (net securities_held) (dvp securities_held) 0 0 ∷ [];
      published = pos 0 ∷ credit 250 ∷ [];
    }
    ∷ record {
      computed = status share share_held ∷ class_points share share_held 0;
      published =
          pos 0
          ∷ euros 800 ∷ euros 640 ∷ euros 480 ∷ euros 320 ∷ euros 160
          ∷ credit 160 ∷ credit 320 ∷ credit 480 ∷ credit 640 ∷ credit 800 ∷ [];
    }
    ∷ record {
      computed =
          status three_positions three_held ∷ (class_points three_positions three_held 0 ++ group_points three_positions three_held 7);
      published =
          pos 0
          ∷ euros 2000 ∷ euros 2500 ∷ euros 1800 ∷ euros 1100 ∷ euros 400
          ∷ credit 700 ∷ credit 1400 ∷ credit 2100 ∷ credit 2800 ∷ credit 3500
          ∷ euros 2000 ∷ euros 2500 ∷ euros 1800 ∷ euros 1100 ∷ euros 400
          ∷ credit 595 ∷ credit 1190 ∷ credit 1785 ∷ credit 2380 ∷ credit 2975 ∷ [];
    }
    ∷ record {
      computed = status three_classes three_held ∷ additional three_classes (net three_held) 0 8 ∷ group_points three_classes three_held 8;
      published =
          pos 0 ∷ euros 1620
          ∷ euros 900 ∷ euros 1620 ∷ euros 1140 ∷ euros 660 ∷ euros 180
          ∷ credit 375 ∷ credit 730 ∷ credit 1085 ∷ credit 1430 ∷ credit 1765 ∷ [];
    }
    ∷ []

pub examples_agree : all_computed examples ≡ all_published examples
unfolding examples everything
examples_agree = refl
