mod PlanLayer
