-- The report of a run on a chart is right: from the law, at the three calls that judging makes.
use Rattle.std.proofs.Common.{◌≡◌, ℕ, ◌+◌, ◌-◌, ◌*◌, ◌<◌, ◌≤◌, min, Bool, true, false, cond, ◌⊎◌, List, [], ◌∷◌, length, take, Some, Ok, Err, Result, sym, refl, ap, ◌∙◌, subst, inl, inr, ⊎_elim, arith}
use Rattle.std.proofs.lemmas.Nat.{mul-le}
use Rattle.std.proofs.lemmas.Bool.{cases_lt, cases_Bool}
use Rattle.std.proofs.lemmas.Result.{err_from_is_err_and}
use Rattle.std.specs.List.{slice_get}
use Rattle.std.specs.Result.{IsErrAnd}
use Rattle.device.specs.Meaning.{Meaning, Lawful}
use Rattle.property_sheet.specs.Contents.{Content, ContentLawful}
use Rattle.chart.specs.declared.rows.Row.{Row}
use Rattle.chart.specs.declared.progress.Progress.{Progress}
use Rattle.chart.specs.declared.answers.Call.{Call}
use Rattle.chart.specs.declared.answers.Call.TheVariants.{Grow, Thin, Ask}
use Rattle.chart.specs.declared.answers.Verdict.{Verdict}
use Rattle.chart.specs.declared.answers.Verdict.TheVariants.{Yes, No}
use Rattle.chart.specs.declared.answers.Answer.TheVariants.{Did, Said}
use Rattle.chart.specs.declared.answers.RunRefusal.{RunRefusal}
use Rattle.chart.specs.declared.answers.RunRefusal.TheVariants.{BadChart, ChartFull}
use Rattle.chart.specs.Steps.{Stepped, stepped, IsStep}
use Rattle.chart.specs.Calls.{chart_fits, opened, opened_chart, numbers_of, grow, thin, ask, did, said}
use Rattle.chart.specs.Histories.{since_open, grown, thinned}
use Rattle.chart.specs.Law.{Verdicts}
use Rattle.naming.proofs.Reached.{finitely_many}
use Rattle.chart_laws.proofs.Histories.{some_room}
use Rattle.chart_laws.proofs.Keeping.{runs_keep}
use Rattle.run.specs.declared.openings.Opening.{Opening}
use Rattle.run.specs.declared.state.Run.{Run}
use Rattle.run.specs.Openings.{NewRun, NoRun}
use Rattle.judge.specs.declared.report.Judgement.{Judgement}
use Rattle.judge.specs.declared.report.Report.{Report}
use Rattle.judge.specs.declared.report.Report.TheVariants.{RunRefused}
use Rattle.judge.specs.Reports.{Reported, reported, asked, run_report, after_thin, after_thin_by, after_grow, after_grow_by, judged}
use Rattle.judge.specs.Verdicts.{VerdictRight, RunRight, JudgedRight}

-- an answer tells the outcome
did_err : (o : Result ℕ RunRefusal) (e : RunRefusal) → did o ≡ Err e → o ≡ Err e
did_err (Ok n) e eq = let z : ◌≡◌ {A = ℕ} 0 1 = cc in absurd (omega arith)
did_err (Err f) e eq = cc

did_ok : (o : Result ℕ RunRefusal) (n : ℕ) → did o ≡ Ok (Did n) → o ≡ Ok n
did_ok (Ok k) n eq = cc
did_ok (Err f) n eq = let z : ◌≡◌ {A = ℕ} 0 1 = cc in absurd (omega arith)

-- a call did some rows, or was refused
done_or_not : (o : Result ℕ RunRefusal) → ((n : ℕ) × (o ≡ Ok n)) ⊎ ((e : RunRefusal) × (o ≡ Err e))
done_or_not (Ok n) = inl (n, refl)
done_or_not (Err e) = inr (e, refl)

said_is : (o : Result Verdict RunRefusal) (v : Verdict) → said o ≡ Ok (Said v) → o ≡ Ok v
said_is (Ok w) v eq = cc
said_is (Err e) v eq = let z : ◌≡◌ {A = ℕ} 0 1 = cc in absurd (omega arith)

some_is : {X : Type 0} (x y : X) → Some x ≡ Some y → x ≡ y
some_is x y e = cc

-- once the grows reached n, the thin counts whole
thinned_all : (n g b : ℕ) → n ≤ g → thinned n (Grow g ∷ Thin b ∷ []) ≡ b + 0
thinned_all n g b h = let none : n - g ≡ 0 = omega arith in ap (λ (k : ℕ). thinned k (Thin b ∷ [])) none

module _ (m : Meaning) (s : Content) (law : Lawful m) (content : ContentLawful s) (chart : List Row) (fits : chart_fits chart ≡ true) where
  abbrev size : ℕ
  size = length chart

  abbrev most : ℕ
  most = size * (size + 1)

  abbrev calls : List Call
  calls = Grow size ∷ Thin most ∷ Ask ∷ []

  abbrev grows : Stepped
  grows = grow m s size (numbers_of m s) size opened (opened_chart m s chart)

  abbrev thins : Stepped
  thins = thin m s size (numbers_of m s) most grows.run grows.chart

  verdicts : Verdicts m s size calls (since_open m s chart calls)
  verdicts = runs_keep m s law content chart fits calls

  report_is : judged m s chart ≡ after_grow m s size grows
  unfolding judged
  report_is = ap (λ (b : Bool). cond b (after_grow m s size grows) (reported (RunRefused BadChart) chart)) fits

  short : size < verdicts.N → RunRight m s verdicts.N chart (after_grow m s size grows).report
  short h =
      let full : grows.outcome ≡ Err ChartFull = did_err grows.outcome ChartFull (some_is _ _ (verdicts.full_short h 0 size refl (some_room m s law content chart fits) (omega arith))) in
      subst (λ (o : Result ℕ RunRefusal). RunRight m s verdicts.N chart (after_grow_by m s size grows o).report) (sym full) (inr (refl, h))

  -- a judging that comes to its end
  module _ (room : verdicts.N ≤ size) where
    grown_all : verdicts.N ≤ grown calls
    grown_all = omega arith

    grow_goes : (n : ℕ) × (grows.outcome ≡ Ok n)
    grow_goes = (min size (verdicts.N - 0), did_ok grows.outcome _ (some_is _ _ (verdicts.grow_answers room 0 size refl)))

    thin_goes : (n : ℕ) × (thins.outcome ≡ Ok n)
    thin_goes = ⊎_elim (λ h. h) (λ e. late ((verdicts.refused_exactly room 1).0 (e.0, ap (λ (o : Result ℕ RunRefusal). Some (did o)) e.1))) (done_or_not thins.outcome)
      where
        late : (b : ℕ) × (slice_get calls 1 ≡ Some (Thin b)) × (grown (take 1 calls) < verdicts.N) → (n : ℕ) × (thins.outcome ≡ Ok n)
        late (b, is, less) = absurd (omega arith)

    enough : verdicts.N * (verdicts.N + 1) ≤ thinned verdicts.N (take 2 calls)
    enough = rw thinned_all (omega (arith, mul-le verdicts.N (verdicts.N + 1) size (size + 1) room (omega arith)))

    -- what is reported once ask has answered
    asked_right : (v : Verdict) → said (ask size thins.run thins.chart) ≡ Ok (Said v) → VerdictRight m s v → RunRight m s verdicts.N chart (after_grow m s size grows).report
    asked_right v answer right =
        let told = said_is (ask size thins.run thins.chart) v answer in
        let rows = (verdicts.rows_exactly room grown_all).0 in
        subst (λ (o : Result ℕ RunRefusal). RunRight m s verdicts.N chart (after_grow_by m s size grows o).report) (sym grow_goes.1)
        (subst (λ (o : Result ℕ RunRefusal). RunRight m s verdicts.N chart (after_thin_by size thins o).report) (sym thin_goes.1)
        (subst (λ (o : Result Verdict RunRefusal). RunRight m s verdicts.N chart (asked thins.run o)) (sym told) (room, rows, right)))

    long : RunRight m s verdicts.N chart (after_grow m s size grows).report
    long = ⊎_elim
        (λ h. asked_right Yes (some_is _ _ h) (verdicts.yes_only 2 h))
        (λ h. asked_right No (some_is _ _ h) (verdicts.no_refutes 2 h, verdicts.no_only 2 h))
        (verdicts.decided room 2 refl enough)

  fits_right : JudgedRight m s chart (judged m s chart).report
  fits_right = record {
    N = verdicts.N;
    counted = verdicts.counted;
    right = subst (λ (r : Reported). RunRight m s verdicts.N chart r.report) (sym report_is) (⊎_elim short long (cases_lt size verdicts.N));
  }

-- a chart of no rows or too many
module _ (m : Meaning) (s : Content) (law : Lawful m) (content : ContentLawful s) (chart : List Row) where
  unfit_right : chart_fits chart ≡ false → JudgedRight m s chart (judged m s chart).report
  unfolding judged
  unfit_right no-fit =
      let all = finitely_many m s law content in
      record {
        N = length all.all;
        counted = record { claims = all.all; lists = record { once = all.once; exactly = all.exactly }; number = refl };
        right = subst (λ (b : Bool). RunRight m s (length all.all) chart (cond b (after_grow m s (length chart) (grow m s (length chart) (numbers_of m s) (length chart) opened (opened_chart m s chart))) (reported (RunRefused BadChart) chart)).report) (sym no-fit) (inl (refl, no-fit));
      }

  pub judged_right : JudgedRight m s chart (judged m s chart).report
  judged_right = ⊎_elim (fits_right m s law content chart) unfit_right (cases_Bool (chart_fits chart))

-- the report of the code is the definition's
step_is : (a : Stepped) (p : Progress) (chart : List Row) (o : Result ℕ RunRefusal) → IsStep a p chart o → stepped p chart o ≡ a
step_is a p chart o i = λ j. record { run = i.run_is j; chart = i.chart_is j; outcome = i.outcome_is j }

module _ (m : Meaning) (s : Content) (law : Lawful m) (content : ContentLawful s) (chart : List Row) where
  pub report_right : (r : Report) (after : List Row) → reported r after ≡ judged m s chart → JudgedRight m s chart r
  report_right r after e = subst (λ (x : Reported). JudgedRight m s chart x.report) (sym e) (judged_right m s law content chart)

module _ (m : Meaning) (s : Content) (chart : List Row) where
  -- the run is refused
  refusal_told : (r : Result Judgement RunRefusal) (e : RunRefusal) (after : List Row) → IsErrAnd r (λ x. x ≡ e) → reported (RunRefused e) after ≡ judged m s chart → reported (run_report r) after ≡ judged m s chart
  refusal_told r e after handed is = ap (λ (r : Result Judgement RunRefusal). reported (run_report r) after) (let p = err_from_is_err_and {Q = λ x. x ≡ e} r handed in p.1 ∙ ap Err p.2) ∙ is

  pub open_refused : (r : Result Judgement RunRefusal) (e : RunRefusal) (after : List Row) → IsErrAnd r (λ x. x ≡ e) → NoRun chart after e → reported (run_report r) after ≡ judged m s chart
  unfolding judged
  open_refused r e after handed n =
      refusal_told r e after handed
      ((λ i. reported (RunRefused (n.refusal_is i)) (n.chart_is i))
      ∙ sym (ap (λ (b : Bool). cond b (after_grow m s (length chart) (grow m s (length chart) (numbers_of m s) (length chart) opened (opened_chart m s chart))) (reported (RunRefused BadChart) chart)) n.unfit))

  -- a run that is opened, grown by so many rows as the chart has
  module _
      (first : List Row) (run : Run) (n : NewRun m s chart first run) (rows : ℕ) (all : rows ≡ length chart)
      (p : Progress) (second : List Row) (o : Result ℕ RunRefusal) (grows : IsStep (grow m s run.opening.size run.opening.numbers rows run.progress first) p second o) where
    grown_is : after_grow_by m s (length chart) (stepped p second o) o ≡ judged m s chart
    unfolding judged
    grown_is =
        (λ i. after_grow m s (length chart) (step_is (grow m s run.opening.size run.opening.numbers rows run.progress first) p second o grows i))
        ∙ (λ i. after_grow m s (length chart) (grow m s (n.size_is i) (n.numbers_are i) (all i) (n.progress_is i) (n.chart_is i)))
        ∙ sym (ap (λ (b : Bool). cond b (after_grow m s (length chart) (grow m s (length chart) (numbers_of m s) (length chart) opened (opened_chart m s chart))) (reported (RunRefused BadChart) chart)) n.fits)

    pub grow_refused : (r : Result Judgement RunRefusal) (e : RunRefusal) → IsErrAnd r (λ x. x ≡ e) → o ≡ Err e → reported (run_report r) second ≡ judged m s chart
    grow_refused r e handed is = refusal_told r e second handed (ap (after_grow_by m s (length chart) (stepped p second o)) (sym is) ∙ grown_is)

    -- then thinned
    module _
        (k : ℕ) (grew : o ≡ Ok k) (opening : Opening) (same : opening ≡ run.opening) (most : ℕ) (enough : most ≡ rows * (rows + 1))
        (q : Progress) (third : List Row) (o' : Result ℕ RunRefusal) (thins : IsStep (thin m s opening.size opening.numbers most p second) q third o') where
      size_is : opening.size ≡ length chart
      size_is = ap (λ (x : Opening). x.size) same ∙ n.size_is

      thinned_is : after_thin_by (length chart) (stepped q third o') o' ≡ judged m s chart
      thinned_is =
          (λ i. after_thin (length chart) (step_is (thin m s opening.size opening.numbers most p second) q third o' thins i))
          ∙ (λ i. after_thin (length chart) (thin m s (size_is i) (((ap (λ (x : Opening). x.numbers) same) ∙ n.numbers_are) i) ((enough ∙ ap (λ (r : ℕ). r * (r + 1)) all) i) p second))
          ∙ ap (after_grow_by m s (length chart) (stepped p second o)) (sym grew)
          ∙ grown_is

      pub thin_refused : (r : Result Judgement RunRefusal) (e : RunRefusal) → IsErrAnd r (λ x. x ≡ e) → o' ≡ Err e → reported (run_report r) third ≡ judged m s chart
      thin_refused r e handed is = refusal_told r e third handed (ap (after_thin_by (length chart) (stepped q third o')) (sym is) ∙ thinned_is)

      -- and asked
      module _ (k' : ℕ) (thinned : o' ≡ Ok k') (size : ℕ) (asks : size ≡ opening.size) (answer : Result Verdict RunRefusal) (told : answer ≡ ask size q third) where
        asked_is : reported (asked q answer) third ≡ judged m s chart
        asked_is =
            ap (λ (a : Result Verdict RunRefusal). reported (asked q a) third) told
            ∙ (λ i. reported (asked q (ask ((asks ∙ size_is) i) q third)) third)
            ∙ ap (after_thin_by (length chart) (stepped q third o')) (sym thinned)
            ∙ thinned_is

        pub ask_refused : (r : Result Judgement RunRefusal) (e : RunRefusal) → IsErrAnd r (λ x. x ≡ e) → answer ≡ Err e → reported (run_report r) third ≡ judged m s chart
        ask_refused r e handed is = refusal_told r e third handed (ap (λ (a : Result Verdict RunRefusal). reported (asked q a) third) (sym is) ∙ asked_is)

        pub all_told : (v : Verdict) → answer ≡ Ok v → reported (asked q (Ok v)) third ≡ judged m s chart
        all_told v is = ap (λ (a : Result Verdict RunRefusal). reported (asked q a) third) (sym is) ∙ asked_is
