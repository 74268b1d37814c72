-- What these scripts are answered, without the ledger.
use Rattle.std.specs.Prelude.{◌≡◌, [], ◌∷◌, codes}
use Rattle.map_model.specs.Text.{lines, whole_lines, refusals}
use Rattle.map_model.specs.State.{empty_map, empty_map_of}
use Rattle.map_model.specs.Output.{machine_text}

-- what whole scripts are answered, computed
pub record WorkedRows : Type 0 where
  pub empty : machine_text empty_map (lines []) ≡ []
  pub silent : machine_text empty_map (lines (codes "\n \t\n# add\n\t#x y\n")) ≡ []
  pub refused : refusals (codes "ok\nno layer\ncount 1\nno duplicate 7\n") ≡ 2
  pub whole : whole_lines (codes "a\n\nb") ≡ codes "a" ∷ [] ∷ []
  pub counted : machine_text empty_map (lines (codes "layer a points range\ncount a 0 0 9 9\n")) ≡ codes "ok\ncount 0\n"
  -- the border is inside
  pub largest : machine_text empty_map (lines (codes "layer a points range\nadd a 1 0 0 2147483647\nadd a 2 2147483647 2147483647 2147483647\ncount a 0 0 2147483647 2147483647\nsum a 0 0 2147483647 2147483647\n")) ≡ codes "ok\nok\nok\ncount 2\nsum 4294967294\n"
  -- of two at one distance the lesser identifier comes first
  pub nearest : machine_text empty_map (lines (codes "layer a points near\nadd a 9 0 1 0\nadd a 4 1 0 0\nnear a 0 0\nnearest a 2 0 0\n")) ≡ codes "ok\nok\nok\nnear 4 1\nnearest 4 1 9 1\n"
  pub farthest : machine_text empty_map (lines (codes "layer a points near\nnear a 0 0\nadd a 1 0 0 0\nnear a 2147483647 2147483647\n")) ≡ codes "ok\nnear none\nok\nnear 1 9223372028264841218\n"
  pub dropped : machine_text empty_map (lines (codes "layer a points range\nadd a 7 1 1 1\nadd a 7 2 2 2\ndrop a 8\nget a 7\nget a 8\nsize a\ndrop a 7\nsize a\n")) ≡ codes "ok\nok\nno duplicate 7\nno unknown 8\nget 1 1 1\nno unknown 8\nsize 1\nok\nsize 0\n"
  pub added_again : machine_text empty_map (lines (codes "layer a points range\nadd a 7 5 5 1\nadd a 1 1 1 1\nadd a 2 2 2 1\nadd a 3 3 3 1\nadd a 4 4 4 1\ndrop a 7\nadd a 7 5 5 1\nadd a 5 20 20 1\nadd a 6 20 20 1\nadd a 8 20 20 1\nadd a 9 20 20 1\nadd a 10 20 20 1\nadd a 11 20 20 1\nadd a 12 20 20 1\nlist a 0 0 99 99\nsum a 0 0 99 99\n")) ≡ codes "ok\nok\nok\nok\nok\nok\nok\nok\nok\nok\nok\nok\nok\nok\nok\nlist 1 2 3 4 5 6 7 8 9 10 11 12\nsum 12\n"
  pub first_faults : machine_text empty_map (lines (codes "layer a points range\ncount a 5 0 4 9\nadd a 1 2147483648 0 0\nadd a x 0 0 0\ncount zz 5 0 4 9\ncount a 1 2 3\nfly a\nsize a!\nnearest a 65 0 0\nlayer q lines range\nlayer q points stab\nlayer q points range range\nlayer q points\nsize q\n")) ≡ codes "ok\nno order\nno range\nno number\nno order\nno fields\nno command\nno name\nno range\nno kind\nno index\nno index\nno fields\nno layer\n"
  pub segments : machine_text empty_map (lines (codes "layer s segments stab\nseg s 2 2 5 0\nseg s 1 5 5 3\nseg s 3 6 9 1\nstab s 5\nstabcount s 5\nstab s 10\nget s 1\nseg s 4 9 8 0\n")) ≡ codes "ok\nok\nok\nok\nstab 1 2\nstabcount 2\nstab none\nget 5 5 3\nno order\n"
  pub highest : machine_text empty_map (lines (codes "layer a points top\nadd a 8 3 7 0\nadd a 2 9 7 0\nadd a 5 4 1 0\ntop a 0 9\nabove a 0 9 7\nabove a 0 9 8\ntop a 5 8\n")) ≡ codes "ok\nok\nok\nok\ntop 2 7\nabove 2 8\nabove none\ntop none\n"
  -- version 2: coordinates of either sign, `-0` is 0; a weight has no sign
  pub signed : machine_text empty_map (lines (codes "livemap 2\nlayer a points range near top\nadd a 1 -2147483648 -2147483648 5\nnear a 2147483647 2147483647\ncount a -2147483648 -2147483648 -1 -1\nget a 1\ntop a -2147483648 0\nadd a 2 -0 -5 1\nget a 2\nadd a 3 0 0 -1\nadd a 3 -2147483649 0 0\nlivemap 1\n")) ≡ codes "ok\nok\nok\nnear 1 36893488130239234050\ncount 1\nget -2147483648 -2147483648 5\ntop 1 -2147483648\nok\nget 0 -5 1\nno number\nno range\nno version\n"
  pub versions : machine_text empty_map (lines (codes "livemap\nlivemap x\nlivemap 3\nlayer a points range\nadd a 1 -1 0 0\n")) ≡ codes "no fields\nno number\nno range\nok\nno number\n"
  -- the greatest coordinate of version 2 is one like any other
  pub highest_signed : machine_text empty_map (lines (codes "livemap 2\nlayer a points range\nadd a 1 5 2147483647 1\nadd a 2 6 2147483647 1\ndrop a 2\ncount a 0 0 9 2147483647\nsum a 0 0 9 2147483647\nlist a 0 0 9 2147483647\n")) ≡ codes "ok\nok\nok\nok\nok\ncount 1\nsum 1\nlist 1\n"
  -- a moved point comes last
  pub moved : machine_text empty_map (lines (codes "layer a points range\nadd a 1 1 1 1\nadd a 2 2 2 2\nmove a 1 5 5 9\nrecent a 2\nget a 1\nmove a 3 0 0 0\ncount a 0 0 9 9\nlayer s segments stab\nmove s 1 0 0 0\nmove b 1 0 0 0\n")) ≡ codes "ok\nok\nok\nok\nrecent 1 2\nget 5 5 9\nno unknown 3\ncount 2\nok\nno kind\nno layer\n"
  -- a map for layers of two items
  pub full : machine_text (empty_map_of 2) (lines (codes "layer a points range\nadd a 1 0 0 0\nadd a 2 0 0 0\nadd a 3 0 0 0\nmove a 1 5 5 5\ndrop a 2\nadd a 3 0 0 0\nrecent a 3\n")) ≡ codes "ok\nok\nok\nno full\nok\nok\nok\nrecent 3 1\n"
  pub layers : machine_text empty_map (lines (codes "layer l1 points range\nlayer l2 points range\nlayer l3 points range\nlayer l4 points range\nlayer l5 points range\nlayer l6 points range\nlayer l7 points range\nlayer l8 segments stab\nlayer l9 points near\nlayer l1 points range\nstab l1 5\nnear l1 0 0\ncount l9 0 0 1 1\ncount l8 0 0 1 1\nadd l8 1 0 0 0\n")) ≡ codes "ok\nok\nok\nok\nok\nok\nok\nok\nno room\nno taken\nno kind\nno index\nno layer\nno kind\nno kind\n"
  pub town : machine_text empty_map (lines (codes "layer shops points range near top\nlayer streets segments stab\nadd shops 1 100 50 1\nadd shops 2 200 100 2\nadd shops 3 300 150 3\nadd shops 4 400 200 4\nadd shops 5 500 0 5\nadd shops 6 600 50 6\nadd shops 7 700 100 7\nadd shops 8 800 150 8\nadd shops 9 900 200 9\nadd shops 10 1000 0 10\nadd shops 11 1100 50 11\nadd shops 12 1200 100 12\nadd shops 13 1300 150 13\nadd shops 14 1400 200 14\nadd shops 15 1500 0 15\nadd shops 16 1600 50 16\nadd shops 17 1700 100 17\nadd shops 18 1800 150 18\nadd shops 19 1900 200 19\nadd shops 20 2000 0 20\nadd shops 21 2100 50 21\nadd shops 22 2200 100 22\nadd shops 23 2300 150 23\nadd shops 24 2400 200 24\nadd shops 25 2500 0 25\nadd shops 26 2600 50 26\nadd shops 27 2700 100 27\nadd shops 28 2800 150 28\nadd shops 29 2900 200 29\nadd shops 30 3000 0 30\nadd shops 31 3100 50 31\nadd shops 32 3200 100 32\nadd shops 33 3300 150 33\nadd shops 34 3400 200 34\nadd shops 35 3500 0 35\nadd shops 36 3600 50 36\nadd shops 37 3700 100 37\nadd shops 38 3800 150 38\nadd shops 39 3900 200 39\nadd shops 40 4000 0 40\ndrop shops 4\ndrop shops 8\ndrop shops 12\ndrop shops 16\ndrop shops 20\ndrop shops 24\ndrop shops 28\ndrop shops 32\ndrop shops 36\ndrop shops 40\nseg streets 1 100 350 10\nseg streets 2 200 450 20\nseg streets 3 300 550 30\nseg streets 4 400 650 40\nseg streets 5 500 750 50\nseg streets 6 600 850 60\nseg streets 7 700 950 70\nseg streets 8 800 1050 80\nseg streets 9 900 1150 90\nseg streets 10 1000 1250 100\nseg streets 11 1100 1350 110\nseg streets 12 1200 1450 120\nsize shops\ncount shops 0 0 2000 100\nsum shops 0 0 2000 100\nlist shops 0 0 2000 100\nnear shops 1000 50\nnearest shops 3 1000 50\nabove shops 500 1500 200\ntop shops 1000 1300\nrecent shops 3\nget shops 7\nstab streets 600\nstabcount streets 600\n")) ≡ codes "ok\nok\nok\nok\nok\nok\nok\nok\nok\nok\nok\nok\nok\nok\nok\nok\nok\nok\nok\nok\nok\nok\nok\nok\nok\nok\nok\nok\nok\nok\nok\nok\nok\nok\nok\nok\nok\nok\nok\nok\nok\nok\nok\nok\nok\nok\nok\nok\nok\nok\nok\nok\nok\nok\nok\nok\nok\nok\nok\nok\nok\nok\nok\nok\nsize 30\ncount 9\nsum 74\nlist 1 2 5 6 7 10 11 15 17\nnear 10 2500\nnearest 10 2500 11 10000 9 32500\nabove 9 14\ntop 13 150\nrecent 39 38 37\nget 700 100 7\nstab 4 5 6\nstabcount 3\n"
  -- an index of a layer in use is handed four items by each update, and is ready once it has all
  pub late : machine_text empty_map (lines (codes "layer a points range\nadd a 1 1 1 1\nadd a 2 2 2 1\nadd a 3 3 3 1\nadd a 4 4 4 1\nadd a 5 5 5 1\nadd a 6 6 6 1\nadd a 7 7 7 1\nadd a 8 8 8 1\nadd a 9 9 9 1\nadd a 10 10 10 1\nindex a near\nnear a 0 0\ndrop a 1\nnear a 0 0\nadd a 11 11 11 1\nnear a 0 0\nadd a 12 12 12 1\nnear a 0 0\nindex a near\n")) ≡ codes "ok\nok\nok\nok\nok\nok\nok\nok\nok\nok\nok\nok\nno building 10\nok\nno building 6\nok\nno building 3\nok\nnear 2 8\nno taken\n"
  -- and at once where there is no item
  pub late_of_none : machine_text empty_map (lines (codes "layer a points range\nindex a top\ntop a 0 9\nindex a stab\nindex b near\n")) ≡ codes "ok\nok\ntop none\nno index\nno layer\n"
  -- a dropped item that it wasn't handed isn't waited for; a moved one is, as the last
  pub late_moves : machine_text empty_map (lines (codes "layer a points near\nadd a 1 1 1 1\nadd a 2 2 2 1\nadd a 3 3 3 1\nadd a 4 4 4 1\nadd a 5 5 5 1\nadd a 6 6 6 1\nindex a top\ndrop a 6\ntop a 0 9\nmove a 1 9 9 1\ntop a 0 9\nindex a range near\nindex a\nlayer s segments stab\nindex s range\n")) ≡ codes "ok\nok\nok\nok\nok\nok\nok\nok\nok\nno building 1\nok\ntop 1 9\nno fields\nno fields\nok\nno kind\n"
  pub other_index : machine_text empty_map (lines (codes "layer t segments cross\nlayer u segments stab\ncross u 0 0 0\ncrosscount u 0 1 0\nlayer p points range batch\nlayer p points range\ncross p 0 0 0\n")) ≡ codes "no index\nok\nno index\nno order\nno index\nok\nno kind\n"
  -- an index whose layer is dropped to nothing meanwhile is ready then
  pub late_dropped : machine_text empty_map (lines (codes "layer a points range\nadd a 1 1 1 1\nadd a 2 2 2 1\nadd a 3 3 3 1\nadd a 4 4 4 1\nadd a 5 5 5 1\nindex a top\ndrop a 5\ntop a 0 9\ndrop a 1\ndrop a 2\ndrop a 3\ndrop a 4\ntop a 0 9\nindex a near\nnear a 0 0\n")) ≡ codes "ok\nok\nok\nok\nok\nok\nok\nok\ntop 4 4\nok\nok\nok\nok\ntop none\nok\nnear none\n"
