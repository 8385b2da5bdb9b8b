-- "Of the cases, the starred ones and the job above form one table of definitions with one proof": each a call on literal texts, and all that it hands over.
use Rattle.std.specs.Prelude.{ℕ, ◌≡◌, List, [], ◌∷◌, cond, eqb, take, drop}
use Rattle.lines.specs.Text.{bytes}
use Rattle.answers.specs.Said.{Said, lent, numbers}
use Rattle.planning.specs.Plan.{plan_said, plan_room}
use Rattle.judging.specs.Judge.{judge_said, judge_room}
use Rattle.serving.specs.Serve.{latest_said, latest_room}
use Rattle.counting.specs.Count.{count_said}

-- the planner's call, the judge's and the latest-time habit's; the cases of the count are a table of their own
pub data Call : Type 0 where
  planner : Call
  judge : Call
  latest : Call

-- a case: the call, its walk number (the planner's) and its texts; the bytes written, the numbers handed over, and the line at fault
pub record Case : Type 0 where
  pub call : Call
  pub walk : ℕ
  pub job : List ℕ
  pub plan : List ℕ
  pub written : List ℕ
  pub result : ℕ
  pub text : ℕ
  pub line : ℕ
  pub length : ℕ
  pub fault : List ℕ

-- what the public contracts say of the call, with just the room that it needs
abbrev pub said_by : Call → ℕ → List ℕ → List ℕ → Said
said_by planner walk job plan = lent plan_room plan_room (plan_said job walk)
said_by judge walk job plan = lent judge_room judge_room (judge_said job plan)
said_by latest walk job plan = lent latest_room latest_room (latest_said job plan)

-- the text at fault: 1 the job, 2 the plan
abbrev pub text_at : ℕ → List ℕ → List ℕ → List ℕ
text_at which job plan = cond (eqb which 1) job plan

-- the bytes, the numbers and the line at fault of a case are those of its call
abbrev pub CaseHolds : Case → Type 0
CaseHolds c =
    let said = said_by c.call c.walk c.job c.plan in
    (said.bytes ≡ c.written)
    × ((numbers said).result ≡ c.result)
    × ((numbers said).text ≡ c.text)
    × ((numbers said).line ≡ c.line)
    × ((numbers said).length ≡ c.length)
    × (take (numbers said).fault_length (drop (numbers said).fault_start (text_at c.text c.job c.plan)) ≡ c.fault)

-- a case of the count: the job text; the numbers handed over, and the line at fault
pub record CountCase : Type 0 where
  pub job : List ℕ
  pub result : ℕ
  pub text : ℕ
  pub line : ℕ
  pub count : ℕ
  pub fault : List ℕ

-- what the public contract says of the count
abbrev pub Counts : CountCase → Type 0
Counts c =
    let said = count_said c.job in
    (said.result ≡ c.result)
    × (said.text ≡ c.text)
    × (said.line ≡ c.line)
    × (said.count ≡ c.count)
    × (take said.fault_length (drop said.fault_start c.job) ≡ c.fault)

-- C1 to C12, and cases of ours of E1, E5 and E7 to E11
unfoldable pub cases : List Case
cases =
    -- 01's job
    record {
      call = planner;
      walk = 11;
      job = bytes "horizon=6\nwalk=11\nopenings=4\nopening=2\nfee=10\nopening=3\nfee=10\nopening=4\nfee=10\nopening=5\nfee=10\nparts=2\nlife=3\nleft=2\nprice=5\nprice=5\nprice=5\nprice=5\nlife=4\nleft=4\nprice=7\nprice=7\nprice=7\nprice=7\n";
      plan = bytes "";
      written = bytes "result=0\nnodes=11\nfloor=37\ncost=37\nstops=2\nstop=2\ncount=1\npart=1\nstop=4\ncount=2\npart=1\npart=2\n";
      result = 0;
      text = 0;
      line = 0;
      length = 94;
      fault = bytes "";
    }
    ∷
    -- walk number 10: 7, nodes 10, floor 17 (37 by E4), the same plan
    record {
      call = planner;
      walk = 10;
      job = bytes "horizon=6\nwalk=11\nopenings=4\nopening=2\nfee=10\nopening=3\nfee=10\nopening=4\nfee=10\nopening=5\nfee=10\nparts=2\nlife=3\nleft=2\nprice=5\nprice=5\nprice=5\nprice=5\nlife=4\nleft=4\nprice=7\nprice=7\nprice=7\nprice=7\n";
      plan = bytes "";
      written = bytes "result=7\nnodes=10\nfloor=37\ncost=37\nstops=2\nstop=2\ncount=1\npart=1\nstop=4\ncount=2\npart=1\npart=2\n";
      result = 7;
      text = 0;
      line = 0;
      length = 94;
      fault = bytes "";
    }
    ∷
    -- walk number 8: 7, cost 44, both parts at 2 and 5
    record {
      call = planner;
      walk = 8;
      job = bytes "horizon=6\nwalk=11\nopenings=4\nopening=2\nfee=10\nopening=3\nfee=10\nopening=4\nfee=10\nopening=5\nfee=10\nparts=2\nlife=3\nleft=2\nprice=5\nprice=5\nprice=5\nprice=5\nlife=4\nleft=4\nprice=7\nprice=7\nprice=7\nprice=7\n";
      plan = bytes "";
      written = bytes "result=7\nnodes=8\nfloor=37\ncost=44\nstops=2\nstop=2\ncount=2\npart=1\npart=2\nstop=5\ncount=2\npart=1\npart=2\n";
      result = 7;
      text = 0;
      line = 0;
      length = 100;
      fault = bytes "";
    }
    ∷
    -- walk number 6: 7, no plan
    record {
      call = planner;
      walk = 6;
      job = bytes "horizon=6\nwalk=11\nopenings=4\nopening=2\nfee=10\nopening=3\nfee=10\nopening=4\nfee=10\nopening=5\nfee=10\nparts=2\nlife=3\nleft=2\nprice=5\nprice=5\nprice=5\nprice=5\nlife=4\nleft=4\nprice=7\nprice=7\nprice=7\nprice=7\n";
      plan = bytes "";
      written = bytes "result=7\nnodes=6\nfloor=37\n";
      result = 7;
      text = 0;
      line = 0;
      length = 26;
      fault = bytes "";
    }
    ∷
    -- E10: no walk line, and a walk number above the limit, which counts as the limit and not modulo 2³²
    record {
      call = planner;
      walk = 4294967296;
      job = bytes "horizon=6\nopenings=0\nparts=1\nlife=7\nleft=7\n";
      plan = bytes "";
      written = bytes "result=0\nnodes=1\nfloor=0\ncost=0\nstops=0\n";
      result = 0;
      text = 0;
      line = 0;
      length = 40;
      fault = bytes "";
    }
    ∷
    -- E10: a walk line is "checked as before": 3 on its line
    record {
      call = planner;
      walk = 11;
      job = bytes "horizon=6\nwalk=4000000001\nopenings=4\nopening=2\nfee=10\nopening=3\nfee=10\nopening=4\nfee=10\nopening=5\nfee=10\nparts=2\nlife=3\nleft=2\nprice=5\nprice=5\nprice=5\nprice=5\nlife=4\nleft=4\nprice=7\nprice=7\nprice=7\nprice=7\n";
      plan = bytes "";
      written = bytes "result=3\ntext=1\nline=2\n";
      result = 3;
      text = 1;
      line = 2;
      length = 23;
      fault = bytes "walk=4000000001";
    }
    ∷
    -- `left=1` for part 1: 6
    record {
      call = planner;
      walk = 11;
      job = bytes "horizon=6\nwalk=11\nopenings=4\nopening=2\nfee=10\nopening=3\nfee=10\nopening=4\nfee=10\nopening=5\nfee=10\nparts=2\nlife=3\nleft=1\nprice=5\nprice=5\nprice=5\nprice=5\nlife=4\nleft=4\nprice=7\nprice=7\nprice=7\nprice=7\n";
      plan = bytes "";
      written = bytes "result=6\n";
      result = 6;
      text = 0;
      line = 0;
      length = 9;
      fault = bytes "";
    }
    ∷
    -- all fees 0: cost 17, the same changes
    record {
      call = planner;
      walk = 11;
      job = bytes "horizon=6\nwalk=11\nopenings=4\nopening=2\nfee=0\nopening=3\nfee=0\nopening=4\nfee=0\nopening=5\nfee=0\nparts=2\nlife=3\nleft=2\nprice=5\nprice=5\nprice=5\nprice=5\nlife=4\nleft=4\nprice=7\nprice=7\nprice=7\nprice=7\n";
      plan = bytes "";
      written = bytes "result=0\nnodes=11\nfloor=17\ncost=17\nstops=2\nstop=2\ncount=1\npart=1\nstop=4\ncount=2\npart=1\npart=2\n";
      result = 0;
      text = 0;
      line = 0;
      length = 94;
      fault = bytes "";
    }
    ∷
    -- `left=4` for part 1: 5, line 14
    record {
      call = planner;
      walk = 11;
      job = bytes "horizon=6\nwalk=11\nopenings=4\nopening=2\nfee=10\nopening=3\nfee=10\nopening=4\nfee=10\nopening=5\nfee=10\nparts=2\nlife=3\nleft=4\nprice=5\nprice=5\nprice=5\nprice=5\nlife=4\nleft=4\nprice=7\nprice=7\nprice=7\nprice=7\n";
      plan = bytes "";
      written = bytes "result=5\ntext=1\nline=14\n";
      result = 5;
      text = 1;
      line = 14;
      length = 24;
      fault = bytes "left=4";
    }
    ∷
    -- second opening 2: 4, line 6
    record {
      call = planner;
      walk = 11;
      job = bytes "horizon=6\nwalk=11\nopenings=4\nopening=2\nfee=10\nopening=2\nfee=10\nopening=4\nfee=10\nopening=5\nfee=10\nparts=2\nlife=3\nleft=2\nprice=5\nprice=5\nprice=5\nprice=5\nlife=4\nleft=4\nprice=7\nprice=7\nprice=7\nprice=7\n";
      plan = bytes "";
      written = bytes "result=4\ntext=1\nline=6\n";
      result = 4;
      text = 1;
      line = 6;
      length = 23;
      fault = bytes "opening=2";
    }
    ∷
    -- judge, part 1 at 2, parts 1 and 2 at 3: 10, part 1, due 6
    record {
      call = judge;
      walk = 0;
      job = bytes "horizon=6\nwalk=11\nopenings=4\nopening=2\nfee=10\nopening=3\nfee=10\nopening=4\nfee=10\nopening=5\nfee=10\nparts=2\nlife=3\nleft=2\nprice=5\nprice=5\nprice=5\nprice=5\nlife=4\nleft=4\nprice=7\nprice=7\nprice=7\nprice=7\n";
      plan = bytes "cost=0\nstops=2\nstop=2\ncount=1\npart=1\nstop=3\ncount=2\npart=1\npart=2\n";
      written = bytes "result=10\npart=1\ndue=6\n";
      result = 10;
      text = 0;
      line = 0;
      length = 23;
      fault = bytes "";
    }
    ∷
    -- judge, the printed plan with cost 36: 11, cost 37
    record {
      call = judge;
      walk = 0;
      job = bytes "horizon=6\nwalk=11\nopenings=4\nopening=2\nfee=10\nopening=3\nfee=10\nopening=4\nfee=10\nopening=5\nfee=10\nparts=2\nlife=3\nleft=2\nprice=5\nprice=5\nprice=5\nprice=5\nlife=4\nleft=4\nprice=7\nprice=7\nprice=7\nprice=7\n";
      plan = bytes "cost=36\nstops=2\nstop=2\ncount=1\npart=1\nstop=4\ncount=2\npart=1\npart=2\n";
      written = bytes "result=11\ncost=37\n";
      result = 11;
      text = 0;
      line = 0;
      length = 18;
      fault = bytes "";
    }
    ∷
    -- one part, T = 6, no openings, life and left 7: cost 0, nodes 1, stops 0
    record {
      call = planner;
      walk = 11;
      job = bytes "horizon=6\nwalk=11\nopenings=0\nparts=1\nlife=7\nleft=7\n";
      plan = bytes "";
      written = bytes "result=0\nnodes=1\nfloor=0\ncost=0\nstops=0\n";
      result = 0;
      text = 0;
      line = 0;
      length = 40;
      fault = bytes "";
    }
    ∷
    -- the same with life and left 6: 6
    record {
      call = planner;
      walk = 11;
      job = bytes "horizon=6\nwalk=11\nopenings=0\nparts=1\nlife=6\nleft=6\n";
      plan = bytes "";
      written = bytes "result=6\n";
      result = 6;
      text = 0;
      line = 0;
      length = 9;
      fault = bytes "";
    }
    ∷
    -- E1: 01's job with step 3 idle: the tie rule's stops are 3 and 5
    record {
      call = planner;
      walk = 15;
      job = bytes "horizon=6\nidles=1\nidle=3\nwalk=15\nopenings=4\nopening=2\nfee=10\nopening=3\nfee=10\nopening=4\nfee=10\nopening=5\nfee=10\nparts=2\nlife=3\nleft=2\nprice=5\nprice=5\nprice=5\nprice=5\nlife=4\nleft=4\nprice=7\nprice=7\nprice=7\nprice=7\n";
      plan = bytes "";
      written = bytes "result=0\nnodes=9\nfloor=37\ncost=37\nstops=2\nstop=3\ncount=1\npart=1\nstop=5\ncount=2\npart=1\npart=2\n";
      result = 0;
      text = 0;
      line = 0;
      length = 93;
      fault = bytes "";
    }
    ∷
    -- the plan of doing nothing: part 1 is due at the idle step
    record {
      call = judge;
      walk = 0;
      job = bytes "horizon=6\nidles=1\nidle=3\nwalk=15\nopenings=4\nopening=2\nfee=10\nopening=3\nfee=10\nopening=4\nfee=10\nopening=5\nfee=10\nparts=2\nlife=3\nleft=2\nprice=5\nprice=5\nprice=5\nprice=5\nlife=4\nleft=4\nprice=7\nprice=7\nprice=7\nprice=7\n";
      plan = bytes "cost=0\nstops=0\n";
      written = bytes "result=10\npart=1\ndue=3\n";
      result = 10;
      text = 0;
      line = 0;
      length = 23;
      fault = bytes "";
    }
    ∷
    -- an idle line past the horizon is number 4, on its line
    record {
      call = planner;
      walk = 15;
      job = bytes "horizon=6\nidles=1\nidle=7\nwalk=15\nopenings=0\nparts=1\nlife=7\nleft=7\n";
      plan = bytes "";
      written = bytes "result=4\ntext=1\nline=3\n";
      result = 4;
      text = 1;
      line = 3;
      length = 23;
      fault = bytes "idle=7";
    }
    ∷
    -- E5: 01's job and an empty plan text: 10, part 1, due 2
    record {
      call = judge;
      walk = 0;
      job = bytes "horizon=6\nwalk=11\nopenings=4\nopening=2\nfee=10\nopening=3\nfee=10\nopening=4\nfee=10\nopening=5\nfee=10\nparts=2\nlife=3\nleft=2\nprice=5\nprice=5\nprice=5\nprice=5\nlife=4\nleft=4\nprice=7\nprice=7\nprice=7\nprice=7\n";
      plan = bytes "";
      written = bytes "result=10\npart=1\ndue=2\n";
      result = 10;
      text = 0;
      line = 0;
      length = 23;
      fault = bytes "";
    }
    ∷
    -- an empty plan text for a job whose parts all outlive the horizon: 0, cost 0
    record {
      call = judge;
      walk = 0;
      job = bytes "horizon=6\nwalk=11\nopenings=1\nopening=2\nfee=10\nparts=2\nlife=7\nleft=7\nprice=5\nlife=9\nleft=8\nprice=7\n";
      plan = bytes "";
      written = bytes "result=0\ncost=0\n";
      result = 0;
      text = 0;
      line = 0;
      length = 16;
      fault = bytes "";
    }
    ∷
    -- E7: part 1 inside part 2, whose removal is decided: the floor is the root's, without it
    record {
      call = planner;
      walk = 100000;
      job = bytes "horizon=4\nwalk=100000\nopenings=1\nopening=3\nfee=0\nparts=2\nlife=4\nleft=4\nremoval=6\ninside=1\nholder=2\nprice=6\nlife=4\nleft=3\nremoval=1\ninside=0\nprice=3\n";
      plan = bytes "";
      written = bytes "result=0\nnodes=5\nfloor=15\ncost=16\nstops=1\nstop=3\ncount=2\npart=1\npart=2\n";
      result = 0;
      text = 0;
      line = 0;
      length = 71;
      fault = bytes "";
    }
    ∷
    -- two parts that hold each other come out together
    record {
      call = planner;
      walk = 38;
      job = bytes "horizon=2\nwalk=38\nopenings=1\nopening=1\nfee=0\nparts=2\nlife=7\nleft=1\nremoval=1\ninside=1\nholder=2\nprice=2\nlife=4\nleft=4\nremoval=0\ninside=1\nholder=1\nprice=1\n";
      plan = bytes "";
      written = bytes "result=0\nnodes=7\nfloor=2\ncost=3\nstops=1\nstop=1\ncount=1\npart=1\n";
      result = 0;
      text = 0;
      line = 0;
      length = 62;
      fault = bytes "";
    }
    ∷
    -- part 3 inside 2 inside 1: all three come out, and 66, by the direct rule, is not the cost
    record {
      call = judge;
      walk = 0;
      job = bytes "horizon=2\nwalk=1\nopenings=1\nopening=1\nfee=1\nparts=3\nlife=3\nleft=3\nremoval=10\ninside=0\nprice=5\nlife=3\nleft=3\nremoval=20\ninside=1\nholder=1\nprice=5\nlife=3\nleft=1\nremoval=40\ninside=1\nholder=2\nprice=5\n";
      plan = bytes "cost=66\nstops=1\nstop=1\ncount=1\npart=3\n";
      written = bytes "result=11\ncost=76\n";
      result = 11;
      text = 0;
      line = 0;
      length = 18;
      fault = bytes "";
    }
    ∷
    -- a part that is its own holder: 12, on its line
    record {
      call = planner;
      walk = 100000;
      job = bytes "horizon=4\nwalk=100000\nopenings=1\nopening=3\nfee=0\nparts=2\nlife=4\nleft=4\nremoval=6\ninside=1\nholder=1\nprice=6\nlife=4\nleft=3\nremoval=1\ninside=0\nprice=3\n";
      plan = bytes "";
      written = bytes "result=12\ntext=1\nline=11\n";
      result = 12;
      text = 1;
      line = 11;
      length = 25;
      fault = bytes "holder=1";
    }
    ∷
    -- E9: 01's job at the stops 2 and 4, whatever is changed there and at whatever cost: the planner's plan
    record {
      call = latest;
      walk = 0;
      job = bytes "horizon=6\nwalk=11\nopenings=4\nopening=2\nfee=10\nopening=3\nfee=10\nopening=4\nfee=10\nopening=5\nfee=10\nparts=2\nlife=3\nleft=2\nprice=5\nprice=5\nprice=5\nprice=5\nlife=4\nleft=4\nprice=7\nprice=7\nprice=7\nprice=7\n";
      plan = bytes "cost=1\nstops=2\nstop=2\ncount=1\npart=2\nstop=4\ncount=0\n";
      written = bytes "result=0\ncost=37\nstops=2\nstop=2\ncount=1\npart=1\nstop=4\ncount=2\npart=1\npart=2\n";
      result = 0;
      text = 0;
      line = 0;
      length = 76;
      fault = bytes "";
    }
    ∷
    -- at the stops 2 and 5: both parts at both, cost 44
    record {
      call = latest;
      walk = 0;
      job = bytes "horizon=6\nwalk=11\nopenings=4\nopening=2\nfee=10\nopening=3\nfee=10\nopening=4\nfee=10\nopening=5\nfee=10\nparts=2\nlife=3\nleft=2\nprice=5\nprice=5\nprice=5\nprice=5\nlife=4\nleft=4\nprice=7\nprice=7\nprice=7\nprice=7\n";
      plan = bytes "cost=0\nstops=2\nstop=2\ncount=0\nstop=5\ncount=0\n";
      written = bytes "result=0\ncost=44\nstops=2\nstop=2\ncount=2\npart=1\npart=2\nstop=5\ncount=2\npart=1\npart=2\n";
      result = 0;
      text = 0;
      line = 0;
      length = 83;
      fault = bytes "";
    }
    ∷
    -- E8: the prices 4 and 3 by a rule
    record {
      call = planner;
      walk = 3000;
      job = bytes "horizon=6\nopenings=2\nopening=1\nfee=0\nopening=3\nfee=0\nparts=1\nlife=6\nleft=3\nbase=4\ndrop=1\nleast=3\n";
      plan = bytes "";
      written = bytes "result=0\nnodes=5\nfloor=3\ncost=3\nstops=1\nstop=3\ncount=1\npart=1\n";
      result = 0;
      text = 0;
      line = 0;
      length = 62;
      fault = bytes "";
    }
    ∷
    -- E8: with no openings the rule's lines may stand, and behind `base` `drop` must
    record {
      call = judge;
      walk = 0;
      job = bytes "horizon=2\nopenings=0\nparts=1\nlife=3\nleft=3\nbase=4\nleast=3\n";
      plan = bytes "";
      written = bytes "result=2\ntext=1\nline=7\n";
      result = 2;
      text = 1;
      line = 7;
      length = 23;
      fault = bytes "least=3";
    }
    ∷
    -- E11: two prices from-to, and what the plan costs at the low ends
    record {
      call = planner;
      walk = 8;
      job = bytes "horizon=7\nopenings=3\nopening=2\nfee=1\nopening=3\nfee=1\nopening=7\nfee=0\nparts=1\nlife=4\nleft=4\nlow=1\nhigh=3\nlow=2\nhigh=3\nprice=3\n";
      plan = bytes "";
      written = bytes "result=0\nnodes=7\nfloor=7\ncostlow=6\ncost=7\nstops=2\nstop=3\ncount=1\npart=1\nstop=7\ncount=1\npart=1\n";
      result = 0;
      text = 0;
      line = 0;
      length = 94;
      fault = bytes "";
    }
    ∷
    -- E11: low above high: 13, on the `high` line
    record {
      call = judge;
      walk = 0;
      job = bytes "horizon=8\nopenings=2\nopening=2\nfee=1\nopening=7\nfee=1\nparts=1\nlife=6\nleft=4\nprice=3\nlow=1000000\nhigh=1\n";
      plan = bytes "";
      written = bytes "result=13\ntext=1\nline=12\n";
      result = 13;
      text = 1;
      line = 12;
      length = 25;
      fault = bytes "high=1";
    }
    ∷ []

-- E6.2, E6.4, E6.6, E7.12. the cases of the count
unfoldable pub counts : List CountCase
counts =
    -- E6: 01's job: 17
    record {
      job = bytes "horizon=6\nwalk=11\nopenings=4\nopening=2\nfee=10\nopening=3\nfee=10\nopening=4\nfee=10\nopening=5\nfee=10\nparts=2\nlife=3\nleft=2\nprice=5\nprice=5\nprice=5\nprice=5\nlife=4\nleft=4\nprice=7\nprice=7\nprice=7\nprice=7\n";
      result = 0;
      text = 0;
      line = 0;
      count = 17;
      fault = bytes "";
    }
    ∷
    -- `left=1` for part 1, a job with no plan: 0, count 1
    record {
      job = bytes "horizon=6\nwalk=11\nopenings=4\nopening=2\nfee=10\nopening=3\nfee=10\nopening=4\nfee=10\nopening=5\nfee=10\nparts=2\nlife=3\nleft=1\nprice=5\nprice=5\nprice=5\nprice=5\nlife=4\nleft=4\nprice=7\nprice=7\nprice=7\nprice=7\n";
      result = 0;
      text = 0;
      line = 0;
      count = 1;
      fault = bytes "";
    }
    ∷
    -- `left=4` for part 1, a refused job text: 5, line 14, count 0
    record {
      job = bytes "horizon=6\nwalk=11\nopenings=4\nopening=2\nfee=10\nopening=3\nfee=10\nopening=4\nfee=10\nopening=5\nfee=10\nparts=2\nlife=3\nleft=4\nprice=5\nprice=5\nprice=5\nprice=5\nlife=4\nleft=4\nprice=7\nprice=7\nprice=7\nprice=7\n";
      result = 5;
      text = 1;
      line = 14;
      count = 0;
      fault = bytes "left=4";
    }
    ∷
    -- E7: a job with a holder: 12, with text 0 and line 0
    record {
      job = bytes "horizon=4\nwalk=100000\nopenings=1\nopening=3\nfee=0\nparts=2\nlife=4\nleft=4\nremoval=6\ninside=1\nholder=2\nprice=6\nlife=4\nleft=3\nremoval=1\ninside=0\nprice=3\n";
      result = 12;
      text = 0;
      line = 0;
      count = 0;
      fault = bytes "";
    }
    ∷
    -- a fault 12 of the text before it: on its line
    record {
      job = bytes "horizon=4\nwalk=100000\nopenings=1\nopening=3\nfee=0\nparts=2\nlife=4\nleft=4\nremoval=6\ninside=1\nholder=1\nprice=6\nlife=4\nleft=3\nremoval=1\ninside=0\nprice=3\n";
      result = 12;
      text = 1;
      line = 11;
      count = 0;
      fault = bytes "holder=1";
    }
    ∷
    -- a removal and no holder: counted as without it
    record {
      job = bytes "horizon=4\nwalk=25\nopenings=2\nopening=2\nfee=0\nopening=4\nfee=5\nparts=1\nlife=5\nleft=3\nremoval=5\ninside=0\nprice=8\nprice=4\n";
      result = 0;
      text = 0;
      line = 0;
      count = 5;
      fault = bytes "";
    }
    ∷ []
